-- Lists of which each item is changed in place.
use Rattle.std.proofs.Common.{◌≡◌, ℕ, ◌+◌, ◌<◌, List, ◌++◌, length, map, get_or, set, take, drop, ap, ◌∙◌, arith}
use Rattle.std.proofs.lemmas.List.{get_or_default}
use Rattle.std.proofs.lemmas.List.Edits.{map_over_more}

-- one more item is changed
pub map_next : {X : Type 0} (f : X → X) (xs ys : List X) (i : ℕ) (d changed : X) → i < length xs → length ys ≡ length xs
    → ys ≡ map f (take i xs) ++ drop i xs → changed ≡ f (get_or ys i d)
    → set ys i changed ≡ map f (take (i + 1) xs) ++ drop (i + 1) xs
map_next f xs ys i d changed within same so_far is =
    ap (set ys i) is ∙ map_over_more f xs ys i (get_or ys i d) within so_far (get_or_default ys i d (get_or ys i d) (omega (arith, within, same)))
