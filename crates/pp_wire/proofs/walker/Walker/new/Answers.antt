use Rattle.std.proofs.Common.{◌+◌, length}
use Rattle.pp_wire.specs.Fields.{field}
use Rattle.pp_wire.proofs.Walks.{length-walk_of}
use Rattle.pp_wire.proofs.walker.Walker.new.Goals as goal

pub returns-clause-few : goal.returns-clause-few
returns-clause-few c = length-walk_of (field (c.args.base + length c.args.bytes.now)) c.args.bytes.now
