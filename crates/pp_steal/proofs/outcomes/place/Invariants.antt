use Rattle.std.proofs.Common.{vec_len}
use Rattle.pp_steal.proofs.Placing.{IsPlaced}
use Rattle.pp_steal.proofs.outcomes.place.Given as goal

abbrev pub invariant-loop-outcome : goal.invariant-loop-outcome
invariant-loop-outcome g l = IsPlaced (g.J.Job.right l.fn.job) l.list l.fn.outcomes.items l.outcomes.items l.fn.slots.items l.slots.items

abbrev pub decreases-loop-outcome : goal.decreases-loop-outcome
decreases-loop-outcome g l = vec_len l.outcomes
