use Rattle.std.proofs.Common.{◌≡◌, ◌<◌, ℕ, length, take, get_or, false, ltb}
use Rattle.pp_steal.specs.Closing.{times_in}
use Rattle.pp_steal.proofs.given.mark.Given as goal

abbrev pub invariant-loop-list : goal.invariant-loop-list
invariant-loop-list l = (length l.marks.items ≡ length l.fn.marks.items)
    × ((x : ℕ) → x < length l.fn.marks.items → get_or l.marks.items x false ≡ ltb 0 (times_in x (take l.list-index l.taken.items)))
