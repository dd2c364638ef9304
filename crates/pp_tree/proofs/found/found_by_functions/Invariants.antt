use Rattle.std.proofs.Common.{◌≡◌, false, map, take}
use Rattle.std.specs.Prelude.{slice_index_or}
use Rattle.pp_tree.proofs.found.found_by_functions.Given as goal

-- the verdicts on the names so far
abbrev pub invariant-loop-number : goal.invariant-loop-number
invariant-loop-number l = l.found ≡ map (λ key. slice_index_or l.own key.function false) (take l.number l.names)
