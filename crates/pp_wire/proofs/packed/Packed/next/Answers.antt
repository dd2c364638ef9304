use Rattle.std.proofs.Common.{arith, ap}
use Rattle.pp_wire.specs.Walk.{placed}
use Rattle.pp_wire.specs.Varint.{varint}
use Rattle.pp_wire.proofs.Shrinking.{number_shrinks}
use Rattle.pp_wire.proofs.Steps.{given_none, left_none, given_item, left_item, given_fault, left_fault}
use Rattle.pp_wire.proofs.packed.Packed.next.Goals as goal

pub returns-then-is_empty-clause-given : goal.returns-then-is_empty-clause-given
returns-then-is_empty-clause-given c = given_none (λ rest. placed c.self.inside.at (varint rest)) c.self.inside.rest.now c.args.self.now c.self.view_is (grind arith)

pub returns-then-is_empty-clause-left : goal.returns-then-is_empty-clause-left
returns-then-is_empty-clause-left c = left_none (λ rest. placed c.self.inside.at (varint rest)) c.self.inside.rest.now c.args.self.now c.self.view_is (grind arith)

pub returns-in-Ok-clause-given : goal.returns-in-Ok-clause-given
returns-in-Ok-clause-given c =
    given_item (λ rest. placed c.self.inside.at (varint rest)) c.self.inside.rest.now c.args.self.now c.self.view_is
    (number_shrinks c.self.inside.at) (c.in-Ok.number, c.in-Ok.rest.now) (grind arith) (ap (placed _) c.in-Ok.ensures.read)

pub returns-in-Ok-clause-left : goal.returns-in-Ok-clause-left
returns-in-Ok-clause-left c =
    left_item (λ rest. placed c.self.inside.at (varint rest)) c.self.inside.rest.now c.args.self.now c.self.view_is
    (number_shrinks c.self.inside.at) (c.in-Ok.number, c.in-Ok.rest.now) (grind arith) (ap (placed _) c.in-Ok.ensures.read)

pub returns-in-Err-clause-given : goal.returns-in-Err-clause-given
returns-in-Err-clause-given c =
    given_fault (λ rest. placed c.self.inside.at (varint rest)) c.self.inside.rest.now c.args.self.now c.self.view_is
    _ (grind arith) (ap (placed _) c.in-Err.ensures.read)

pub returns-in-Err-clause-left : goal.returns-in-Err-clause-left
returns-in-Err-clause-left c =
    left_fault (λ rest. placed c.self.inside.at (varint rest)) c.self.inside.rest.now c.args.self.now c.self.view_is
    _ (grind arith) (ap (placed _) c.in-Err.ensures.read)
