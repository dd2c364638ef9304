use Rattle.std.proofs.Common.{arith, ap, ◌∷◌, ◌∙◌, length}
use Rattle.pp_steal.proofs.Placing.{slot_right, out_more}
use Rattle.pp_steal.proofs.outcomes.all_outcomes.Goals as goal

pub unreachable-requires : goal.unreachable-requires
unreachable-requires g c = let h = slot_right (g.J.Job.right c.args.job.now) c.args.slots.items c.loop-slot.slot-iterator.rest.items c.next.new.self.rest.items c.loop-slot.outcomes.items c.in-Some.slot c.loop-slot.invariant.0 c.in-Some.ensures.steps.0 c.requires in c.in_default.not-Some h.0 h.1

pub push_reserved-requires : goal.push_reserved-requires
push_reserved-requires g c = let n = c.loop-slot.invariant.0.left.1 in let m = ap length c.in-Some.ensures.steps.0 in omega (arith, c.loop-slot.invariant.1)

pub loop-slot-preserved : goal.loop-slot-preserved
loop-slot-preserved g c = (
  rw c.push_reserved.ensures.items (out_more (g.J.Job.right c.args.job.now) c.args.slots.items c.loop-slot.slot-iterator.rest.items c.next.new.self.rest.items c.loop-slot.outcomes.items c.in-Some-slot.outcome c.loop-slot.invariant.0
      (c.in-Some.ensures.steps.0 ∙ ap (λ s. s ∷ c.next.new.self.rest.items) c.in-Some-slot.is) c.requires),
  rw c.push_reserved.ensures.capacity c.loop-slot.invariant.1,
)
