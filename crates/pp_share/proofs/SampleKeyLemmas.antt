-- Sums over what items are described by, and the test of samples' locations and labels.
use Rattle.std.proofs.Common.{◌≡◌, ℕ, ◌+◌, List, [], ◌∷◌, map, sum_by, refl, sym, ap, ◌∙◌}
use Rattle.std.specs.Cmp.{IsEquivalence, decided}
use Rattle.std.proofs.lemmas.List.Sums.{sum_by-cons}
use Rattle.pp_share.specs.SampleStacks.{same_stack, stack_decides}

pub sum_by-map : {A B : Type 0} (weight : B → ℕ) (f : A → B) (xs : List A) → sum_by weight (map f xs) ≡ sum_by (λ x. weight (f x)) xs
sum_by-map weight f [] = refl
sum_by-map weight f (x ∷ xs) =
    sum_by-cons weight (f x) (map f xs) ∙ ap (λ n. weight (f x) + n) (sum_by-map weight f xs) ∙ sym (sum_by-cons (λ y. weight (f y)) x xs)

pub stack_laws : IsEquivalence same_stack
stack_laws = decided same_stack stack_decides
