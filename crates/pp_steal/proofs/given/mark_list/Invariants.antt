use Rattle.std.proofs.Common.{◌≡◌, ◌<◌, ℕ, length, take, get_or, false, ltb, ◌||◌}
use Rattle.pp_steal.specs.Pool.{count_in}
use Rattle.pp_steal.proofs.given.mark_list.Given as goal

abbrev pub invariant-loop-piece : goal.invariant-loop-piece
invariant-loop-piece l = (length l.marks.items ≡ length l.fn.marks.items)
    × ((x : ℕ) → x < length l.fn.marks.items → get_or l.marks.items x false ≡ (get_or l.fn.marks.items x false || ltb 0 (count_in x (take l.piece-index l.list))))
