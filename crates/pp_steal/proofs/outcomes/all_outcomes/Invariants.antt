use Rattle.std.proofs.Common.{◌≤◌, length, vec_capacity}
use Rattle.pp_steal.proofs.Placing.{AreOut}
use Rattle.pp_steal.proofs.outcomes.all_outcomes.Given as goal

abbrev pub invariant-loop-slot : goal.invariant-loop-slot
invariant-loop-slot g l = AreOut (g.J.Job.right l.fn.job) l.fn.slots.items l.slot-iterator.rest.items l.outcomes.items × (length l.fn.slots.items ≤ vec_capacity l.outcomes)
