-- Paths in order.
use Rattle.std.proofs.Common.{◌≡◌, ℕ, zero, suc, ◌<◌, ◌≤◌, false, List, [], ◌∷◌, length, get_or, arith}
use Rattle.std.specs.Cmp.Lexicographic.{nat_list_cmp_total}
use Rattle.std.specs.List.Sorted.{IsSorted}
use Rattle.std.specs.Ordering.{is_lt}
use Rattle.std.proofs.lemmas.List.Sorted.{ranks_by, sorted_far}
use Rattle.pp_calltree.specs.declared.path.Path.{Path}
use Rattle.pp_calltree.specs.Paths.{below, path_cmp, NoneBefore, IsRising}

none_before : (x : Path) (paths : List Path) → ((j : ℕ) (d : Path) → j < length paths → is_lt (path_cmp (get_or paths j d) x) ≡ false) → NoneBefore x.keys.now (below 0 paths)
none_before x [] far = tt
none_before x (y ∷ paths) far = (far zero y (omega arith), none_before x paths (λ j d here. far (suc j) d (omega (arith, here))))

rises_far : (paths : List Path) → ((i j : ℕ) (d : Path) → i ≤ j → j < length paths → is_lt (path_cmp (get_or paths j d) (get_or paths i d)) ≡ false) → IsRising (below 0 paths)
rises_far [] far = tt
rises_far (x ∷ paths) far = (
  none_before x paths (λ j d here. far zero (suc j) d (omega arith) (omega (arith, here))),
  rises_far paths (λ i j d order here. far (suc i) (suc j) d (omega (arith, order)) (omega (arith, here))),
)

-- sorted paths rise
pub rises_sorted : (paths : List Path) → IsSorted path_cmp paths → IsRising (below 0 paths)
rises_sorted paths sorted = rises_far paths (sorted_far (λ a b. is_lt (path_cmp a b)) (ranks_by nat_list_cmp_total (λ (x : Path). x.keys.now)) paths sorted)
