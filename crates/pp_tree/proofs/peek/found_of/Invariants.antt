use Rattle.std.proofs.Common.{◌≡◌, ◌++◌, drop, slice_index_or, false}
use Rattle.std.specs.List.{filter}
use Rattle.pp_tree.proofs.peek.found_of.Given as goal

-- those found so far, and those of the rest
abbrev pub invariant-loop-number : goal.invariant-loop-number
invariant-loop-number l = l.shown ++ filter (λ n. slice_index_or l.found n false) (drop l.number-index l.order) ≡ filter (λ n. slice_index_or l.found n false) l.order
