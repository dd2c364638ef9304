use Rattle.pp_wire.proofs.Again.{bytes_field_again}
use Rattle.pp_wire.proofs.laws.bytes_are_read.Goals as goal

pub returns : goal.returns
returns c = bytes_field_again
