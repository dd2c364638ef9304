use Rattle.std.proofs.Common.{◌≡◌, ◌<◌, ℕ, length, get_or}
use Rattle.pp_steal.specs.Running.{HasRight}
use Rattle.pp_steal.proofs.outcomes.run_left.Given as goal

abbrev pub invariant-loop-piece : goal.invariant-loop-piece
invariant-loop-piece g l = record {
  count : length l.slots.items ≡ length l.fn.slots.items;
  kept : (x : ℕ) → HasRight (g.J.Job.right l.job) l.fn.slots.items x → HasRight (g.J.Job.right l.job) l.slots.items x;
  placed : (i : ℕ) → i < l.piece-index → HasRight (g.J.Job.right l.job) l.slots.items (get_or l.left i 0);
}
