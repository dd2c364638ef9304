-- Lists that are compared item by item.
use Rattle.std.proofs.Common.{◌≡◌, ℕ, ◌+◌, ◌<◌, ◌≤◌, Bool, true, false, ◌&&◌, List, [], ◌∷◌, map, length, get_or, drop, refl, sym, ap, ◌∙◌, arith}
use Rattle.std.specs.Cmp.Lexicographic.{pointwise}
use Rattle.std.proofs.lemmas.List.{drop_more, drop_all}

-- items that are described and compared
pub pointwise-maps : {A B C D : Type 0} (same : C → D → Bool) (f : A → C) (g : B → D) (xs : List A) (ys : List B)
    → pointwise (λ a b. same (f a) (g b)) xs ys ≡ pointwise same (map f xs) (map g ys)
pointwise-maps same f g [] [] = refl
pointwise-maps same f g [] (y ∷ ys) = refl
pointwise-maps same f g (x ∷ xs) [] = refl
pointwise-maps same f g (x ∷ xs) (y ∷ ys) = ap (λ b. same (f x) (g y) && b) (pointwise-maps same f g xs ys)

module _ {A B : Type 0} (same : A → B → Bool) where
  -- what is left from a place on, with the items there
  step : (xs : List A) (ys : List B) (k : ℕ) (d : A) (e : B) → k < length xs → k < length ys
      → pointwise same (drop k xs) (drop k ys) ≡ (same (get_or xs k d) (get_or ys k e) && pointwise same (drop (k + 1) xs) (drop (k + 1) ys))
  step xs ys k d e inside within = (λ j. pointwise same (drop_more xs k d inside j) (drop_more ys k e within j))

  -- two items differ
  pub items_differ : (xs : List A) (ys : List B) (k : ℕ) (d : A) (e : B) (answer whole : Bool) → k < length xs → length xs ≡ length ys
      → answer ≡ same (get_or xs k d) (get_or ys k e) → answer ≡ false → pointwise same (drop k xs) (drop k ys) ≡ whole → false ≡ whole
  items_differ xs ys k d e answer whole inside long is differs left =
      sym (step xs ys k d e inside (omega (arith, inside, long)) ∙ ap (λ b. b && pointwise same (drop (k + 1) xs) (drop (k + 1) ys)) (sym is ∙ differs)) ∙ left

  -- two items are equal
  pub items_agree : (xs : List A) (ys : List B) (k : ℕ) (d : A) (e : B) (answer whole : Bool) → k < length xs → length xs ≡ length ys
      → answer ≡ same (get_or xs k d) (get_or ys k e) → answer ≡ true → pointwise same (drop k xs) (drop k ys) ≡ whole
      → pointwise same (drop (k + 1) xs) (drop (k + 1) ys) ≡ whole
  items_agree xs ys k d e answer whole inside long is agrees left =
      sym (step xs ys k d e inside (omega (arith, inside, long)) ∙ ap (λ b. b && pointwise same (drop (k + 1) xs) (drop (k + 1) ys)) (sym is ∙ agrees)) ∙ left

  -- no item is left
  pub all_agree : (xs : List A) (ys : List B) (k : ℕ) (whole : Bool) → length xs ≤ k → length xs ≡ length ys → pointwise same (drop k xs) (drop k ys) ≡ whole → true ≡ whole
  all_agree xs ys k whole past long left = (λ j. pointwise same (sym (drop_all k xs past) j) (sym (drop_all k ys (omega (arith, past, long))) j)) ∙ left
