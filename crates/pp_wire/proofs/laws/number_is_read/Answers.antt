use Rattle.pp_wire.proofs.Again.{number_field_again}
use Rattle.pp_wire.proofs.laws.number_is_read.Goals as goal

pub returns : goal.returns
returns c = number_field_again
