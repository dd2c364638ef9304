use Rattle.std.proofs.Common.{◌≡◌, ◌≤◌, ◌<◌, ℕ, [], length, take, get_or, vec_len}
use Rattle.pp_steal.specs.Running.{HasRight}
use Rattle.pp_steal.proofs.outcomes.place_all.Given as goal

abbrev pub invariant-loop-of_lane : goal.invariant-loop-of_lane
invariant-loop-of_lane g l = record {
  left : (l.outcomes.items ≡ take (length l.outcomes.items) l.fn.outcomes.items) × (length l.outcomes.items ≤ length l.fn.outcomes.items);
  count : length l.slots.items ≡ length l.fn.slots.items;
  placed : (k : ℕ) (i : ℕ) → length l.outcomes.items ≤ k → k < length l.taken → i < length (get_or l.taken k []) → HasRight (g.J.Job.right l.job) l.slots.items (get_or (get_or l.taken k []) i 0);
}

abbrev pub decreases-loop-of_lane : goal.decreases-loop-of_lane
decreases-loop-of_lane g l = vec_len l.outcomes
