use Rattle.pp_laws.proofs.Labelled.{labelled_bases_subtract}
use Rattle.pp_laws.proofs.Subtracting.{bases_subtract, nothing_is_left}
use Rattle.pp_laws.proofs.bases.differences_are_differences.Goals as goal

pub returns-clause-differences : goal.returns-clause-differences
returns-clause-differences c = bases_subtract

pub returns-clause-itself : goal.returns-clause-itself
returns-clause-itself c = nothing_is_left

pub returns-clause-labelled : goal.returns-clause-labelled
returns-clause-labelled c = labelled_bases_subtract
