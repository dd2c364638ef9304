-- A fact of each element of a list, by its place.
use Rattle.std.proofs.Common.{◌≡◌, ◌≢◌, ℕ, zero, suc, ◌<◌, List, [], ◌∷◌, ◌++◌, length, length-set, length-append, set, get_or, get_or-set_other, get_or-set_same, sym, refl, subst, arith}
use native.Mathlib.Decide.{ℕ_discrete}

module _ {A : Type 0} (P : ℕ → A → Type 0) where
  abbrev pub Each : List A → Type 0
  Each xs = (j : ℕ) (d : A) → j < length xs → P j (get_or xs j d)

  pub each_set : (xs : List A) (i : ℕ) (y : A) → i < length xs → P i y → ((j : ℕ) (d : A) → j < length xs → j ≢ i → P j (get_or xs j d)) → Each (set xs i y)
  each_set xs i y lt mine others j d below =
      elim (ℕ_discrete j i) as (λ _. P j (get_or (set xs i y) j d)) [
        | yes e ↦ subst (λ (k : ℕ). P k (get_or (set xs i y) k d)) (sym e) (subst (P i) (sym (get_or-set_same xs i y d lt)) mine)
        | no n ↦ subst (P j) (sym (get_or-set_other xs i j y d n)) (others j d (omega (arith, length-set xs i y)) n)
      ]

  pub get_end : (xs : List A) (y d : A) → get_or (xs ++ y ∷ []) (length xs) d ≡ y
  get_end [] y d = refl
  get_end (x ∷ xs) y d = get_end xs y d

  pub get_left : (xs : List A) (y d : A) (j : ℕ) → j < length xs → get_or (xs ++ y ∷ []) j d ≡ get_or xs j d
  get_left [] y d j lt = absurd (omega arith)
  get_left (x ∷ xs) y d zero lt = refl
  get_left (x ∷ xs) y d (suc j) lt = get_left xs y d j (omega arith)

  pub each_push : (xs : List A) (y : A) → P (length xs) y → Each xs → Each (xs ++ y ∷ [])
  each_push xs y mine others j d below =
      elim (ℕ_discrete j (length xs)) as (λ _. P j (get_or (xs ++ y ∷ []) j d)) [
        | yes e ↦ subst (λ (k : ℕ). P k (get_or (xs ++ y ∷ []) k d)) (sym e) (subst (P (length xs)) (sym (get_end xs y d)) mine)
        | no n ↦ let lt : j < length xs = omega (arith, length-append xs (y ∷ [])) in subst (P j) (sym (get_left xs y d j lt)) (others j d lt)
      ]

  pub each_split : (xs : List A) (y : A) → Each (xs ++ y ∷ []) → Each xs × P (length xs) y
  each_split xs y all = ((λ j d lt. subst (P j) (get_left xs y d j lt) (all j d (omega (arith, length-append xs (y ∷ []))))), subst (P (length xs)) (get_end xs y y) (all (length xs) y (omega (arith, length-append xs (y ∷ [])))))
