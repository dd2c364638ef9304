-- Texts that are put one after the other.
use Rattle.std.proofs.Common.{◌≡◌, ℕ, ◌+◌, ◌<◌, ◌≤◌, List, [], ◌∷◌, ◌++◌, length, map, drop, get_or, refl, sym, ap, ◌∙◌, append_assoc}
use Rattle.std.specs.List.{flat_map}
use Rattle.std.proofs.lemmas.List.{drop_more, drop_all, append-nil}

-- texts of items, so far and left
module _ {A : Type 0} (text : A → List ℕ) where
  abbrev pub PuttingEach : List A → List ℕ → ℕ → List ℕ → Type 0
  PuttingEach items before i out = out ++ flat_map text (drop i items) ≡ before ++ flat_map text items

  pub each_more : (items : List A) (before : List ℕ) (i : ℕ) (out new : List ℕ) (x d : A) → i < length items → x ≡ get_or items i d
      → PuttingEach items before i out → new ≡ out ++ text x → PuttingEach items before (i + 1) new
  each_more items before i out new x d within is so_far e =
      let rest : List ℕ = flat_map text (drop (i + 1) items) in
      let step : flat_map text (drop i items) ≡ text x ++ rest =
      ap (flat_map text) (drop_more items i d within) ∙ ap (λ y. text y ++ rest) (sym is) in
      ap (λ o. o ++ rest) e ∙ append_assoc out (text x) rest ∙ sym (ap (λ r. out ++ r) step) ∙ so_far

  pub each_all : (items : List A) (before : List ℕ) (i : ℕ) (out : List ℕ) → length items ≤ i
      → PuttingEach items before i out → out ≡ before ++ flat_map text items
  each_all items before i out past so_far =
      sym (append-nil out) ∙ sym (ap (λ r. out ++ flat_map text r) (drop_all i items past)) ∙ so_far

-- texts of what items stand for
pub flat_map-mapped : {A B : Type 0} (text : B → List ℕ) (item : A → B) (items : List A) → flat_map text (map item items) ≡ flat_map (λ x. text (item x)) items
flat_map-mapped text item [] = refl
flat_map-mapped text item (x ∷ items) = ap (λ r. text (item x) ++ r) (flat_map-mapped text item items)
