use Rattle.pp_laws.proofs.Comparing.{sides_are_apart, both_are_shown}
use Rattle.pp_laws.proofs.compared.comparisons_show_both_sides.Goals as goal

pub returns-clause-apart : goal.returns-clause-apart
returns-clause-apart c = sides_are_apart

pub returns-clause-both : goal.returns-clause-both
returns-clause-both c = both_are_shown
