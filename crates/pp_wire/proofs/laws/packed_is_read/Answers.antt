use Rattle.pp_wire.proofs.Again.{packed_again}
use Rattle.pp_wire.proofs.laws.packed_is_read.Goals as goal

pub returns : goal.returns
returns c = packed_again
