use Rattle.pp_laws.proofs.Within.{edges_within}
use Rattle.pp_laws.proofs.bounds.edges_are_within.Goals as goal

pub returns : goal.returns
returns c = edges_within
