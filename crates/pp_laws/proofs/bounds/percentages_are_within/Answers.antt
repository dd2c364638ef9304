use Rattle.pp_laws.proofs.Within.{percentages_within}
use Rattle.pp_laws.proofs.bounds.percentages_are_within.Goals as goal

pub returns : goal.returns
returns c = percentages_within
