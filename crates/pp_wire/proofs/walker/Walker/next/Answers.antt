use Rattle.std.proofs.Common.{arith, ap}
use Rattle.pp_wire.specs.Walk.{placed}
use Rattle.pp_wire.specs.Fields.{field, item}
use Rattle.pp_wire.proofs.Shrinking.{field_shrinks}
use Rattle.pp_wire.proofs.Steps.{given_none, left_none, given_item, left_item, given_fault, left_fault}
use Rattle.pp_wire.proofs.walker.Walker.next.Goals as goal

pub returns-then-is_empty-clause-given : goal.returns-then-is_empty-clause-given
returns-then-is_empty-clause-given c = given_none (field c.self.inside.end) c.self.inside.rest.now c.args.self.now c.self.view_is (grind arith)

pub returns-then-is_empty-clause-left : goal.returns-then-is_empty-clause-left
returns-then-is_empty-clause-left c = left_none (field c.self.inside.end) c.self.inside.rest.now c.args.self.now c.self.view_is (grind arith)

pub returns-in-Ok-clause-given : goal.returns-in-Ok-clause-given
unfolding field
returns-in-Ok-clause-given c =
    given_item (field c.self.inside.end) c.self.inside.rest.now c.args.self.now c.self.view_is
    (field_shrinks c.self.inside.end) (item c.in-Ok.field, c.in-Ok.rest.now) (grind arith) (ap (placed _) c.in-Ok.ensures.read)

pub returns-in-Ok-clause-left : goal.returns-in-Ok-clause-left
unfolding field
returns-in-Ok-clause-left c =
    left_item (field c.self.inside.end) c.self.inside.rest.now c.args.self.now c.self.view_is
    (field_shrinks c.self.inside.end) (item c.in-Ok.field, c.in-Ok.rest.now) (grind arith) (ap (placed _) c.in-Ok.ensures.read)

pub returns-in-Err-clause-given : goal.returns-in-Err-clause-given
unfolding field
returns-in-Err-clause-given c =
    given_fault (field c.self.inside.end) c.self.inside.rest.now c.args.self.now c.self.view_is
    _ (grind arith) (ap (placed _) c.in-Err.ensures.read)

pub returns-in-Err-clause-left : goal.returns-in-Err-clause-left
unfolding field
returns-in-Err-clause-left c =
    left_fault (field c.self.inside.end) c.self.inside.rest.now c.args.self.now c.self.view_is
    _ (grind arith) (ap (placed _) c.in-Err.ensures.read)
