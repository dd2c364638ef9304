use Rattle.pp_wire.specs.Varint.{varint}
use Rattle.pp_wire.specs.Walk.{placed}
use Rattle.pp_wire.proofs.Walks.{length-walk_of}
use Rattle.pp_wire.proofs.packed.Packed.new.Goals as goal

pub returns-clause-few : goal.returns-clause-few
returns-clause-few c = length-walk_of (λ rest. placed c.args.at (varint rest)) c.args.bytes.now
