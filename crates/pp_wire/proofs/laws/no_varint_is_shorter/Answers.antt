use Rattle.pp_wire.proofs.Briefest.{none_is_shorter}
use Rattle.pp_wire.proofs.laws.no_varint_is_shorter.Goals as goal

pub returns : goal.returns
returns c = none_is_shorter
