use Rattle.pp_laws.proofs.Multiplying.{bases_negate}
use Rattle.pp_laws.proofs.scales.bases_count_against.Goals as goal

pub returns : goal.returns
returns c = bases_negate
