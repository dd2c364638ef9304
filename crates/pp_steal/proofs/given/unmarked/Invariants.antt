use Rattle.std.proofs.Common.{◌≡◌, ◌≤◌, get_or, false, not, vec_capacity, filter}
use Rattle.pp_steal.specs.Dealing.{upto}
use Rattle.pp_steal.proofs.given.unmarked.Given as goal

abbrev pub invariant-loop-piece : goal.invariant-loop-piece
invariant-loop-piece l = (l.left.items ≡ filter (λ x. not (get_or l.marks.items x false)) (upto l.piece)) × (l.pieces ≤ vec_capacity l.left)
