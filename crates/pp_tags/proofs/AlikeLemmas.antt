-- Two tests that agree on each item of a list find and keep the same items.
use Rattle.std.proofs.Common.{◌≡◌, Bool, ◌||◌, cond, List, [], ◌∷◌, refl, ap₂}
use Rattle.std.specs.Prelude.{filter, All}
use Rattle.std.specs.List.{list_any}
use Rattle.std.proofs.lemmas.List.Elements.{All-head, All-tail}

module _ {X : Type 0} (p q : X → Bool) where
  -- whether one passes
  pub list_any_alike : (xs : List X) → All (λ x. p x ≡ q x) xs → list_any p xs ≡ list_any q xs
  list_any_alike [] same = refl
  list_any_alike (x ∷ xs) same =
      ap₂ (λ a b. a || b) (All-head (λ x. p x ≡ q x) x xs same) (list_any_alike xs (All-tail (λ x. p x ≡ q x) x xs same))

  -- those that pass
  pub filter_alike : (xs : List X) → All (λ x. p x ≡ q x) xs → filter p xs ≡ filter q xs
  filter_alike [] same = refl
  filter_alike (x ∷ xs) same =
      ap₂ (λ b ys. cond b (x ∷ ys) ys) (All-head (λ x. p x ≡ q x) x xs same) (filter_alike xs (All-tail (λ x. p x ≡ q x) x xs same))
