-- What holds of each item of a list.
use Rattle.std.proofs.Common.{◌≡◌, suc, List, [], ◌∷◌, map, refl, arith}
use Rattle.std.specs.List.{All, AllByRecursion}

pub map_same : {X : Type 0} (xs : List X) → map (λ y. y) xs ≡ xs
map_same [] = refl
map_same (x ∷ xs) = (λ j. x ∷ map_same xs j)

pub all_tt : {X : Type 0} (xs : List X) → AllByRecursion (λ _. Unit {0}) xs
all_tt [] = tt
all_tt (x ∷ xs) = (tt, all_tt xs)

pub by_recursion : {X : Type 0} (P : X → Type 0) (xs : List X) → All P xs → AllByRecursion P xs
by_recursion P [] all = tt
by_recursion P (x ∷ xs) all = (all 0 x (omega arith), by_recursion P xs (λ k d within. all (suc k) d (omega arith)))
