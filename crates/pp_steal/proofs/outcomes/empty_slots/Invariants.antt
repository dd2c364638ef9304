use Rattle.std.proofs.Common.{◌≡◌, ◌≤◌, length, vec_capacity}
use Rattle.pp_steal.proofs.outcomes.empty_slots.Given as goal

abbrev pub invariant-loop-piece : goal.invariant-loop-piece
invariant-loop-piece g l = (length l.slots.items ≡ l._piece) × (l.pieces ≤ vec_capacity l.slots)
