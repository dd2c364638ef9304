use Rattle.std.proofs.Common.{sym, ap, ◌∙◌, length, arith}
use Rattle.pp_count.proofs.Sights.{numbered_none, numbered_read, numbered_other, numbered_all}
use Rattle.pp_count.proofs.seeing.number_stack.Goals.{then-counted+in_ok-push, else-counted}
use Rattle.pp_count.proofs.seeing.number_stack.Goals as goal

pub loop-place-init : goal.loop-place-init
loop-place-init c = numbered_none c.args.scope.now.l.now.profile c.args.scope.now.grouping c.args.scope.now.table.now c.args.stack.now c.args.keys.now.items c.requires.none

pub loop-place-preserved : goal.loop-place-preserved
loop-place-preserved c = elim c.if-counted.branch [
  | then-counted+in_ok-push w ↦
      rw (w.keys-is, w.in_ok-push.ensures.items)
      (numbered_read c.args.scope.now.l.now.profile c.args.scope.now.grouping c.args.scope.now.table.now c.args.stack.now c.as_slice-frames.result.now c.loop-place.place c.loop-place.keys.items
      _ w.number_of-number.result c.as_slice-frames.ensures c.loop-place-test.true
      (sym c.counted.ensures ∙ w.if-counted.true) w.number_of-number.ensures.below w.number_of-number.ensures.named c.loop-place.invariant)
  | else-counted w ↦
      rw w.keys-is
      (numbered_other c.args.scope.now.l.now.profile c.args.scope.now.grouping c.args.scope.now.table.now c.args.stack.now c.loop-place.place c.loop-place.keys.items
      (omega (arith, c.loop-place-test.true, ap length c.as_slice-frames.ensures)) (sym c.counted.ensures ∙ w.if-counted.false) c.loop-place.invariant)
]

pub returns-clause-named : goal.returns-clause-named
returns-clause-named c =
    numbered_all c.args.scope.now.l.now.profile c.args.scope.now.grouping c.args.scope.now.table.now c.args.stack.now c.loop-place.place c.loop-place.keys.items (omega (arith, c.loop-place-test.false, ap length c.as_slice-frames.ensures)) c.loop-place.invariant
