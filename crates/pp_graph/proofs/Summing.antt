-- The flats that a loop has added up, and those that are left.
use Rattle.std.proofs.Common.{◌≡◌, ℕ, ◌+◌, ◌<◌, ◌≤◌, ◌^◌, ℤ, pos, ◌+ℤ◌, nat_abs, List, [], ◌∷◌, length, map, drop, get_or, sum_by, SFits, w64, to_z, of_z, sym, ap, subst, ◌∙◌, arith}
use Rattle.std.proofs.Math.IntN.{+ℤ_assoc, +ℤ_idl, +ℤ_idr}
use Rattle.std.proofs.lemmas.Int.{ints, fits_signed_from_abs, to_z-of_z}
use Rattle.std.proofs.lemmas.List.{drop_more, drop_all}
use Rattle.std.proofs.lemmas.List.Sums.{sum_by-cons}
use Rattle.pp_graph.specs.Trimmed.{int_sum}

module _ (value : ℕ → ℤ) where
  -- what the values can add up to
  abbrev pub sizes : List ℕ → ℕ
  sizes xs = sum_by (λ n. nat_abs (value n)) xs

  -- the sum so far, and what is left
  pub record Summing (xs : List ℕ) (i : ℕ) (sum : ℤ) : Type 0 where
    pub fits : nat_abs sum + sizes (drop i xs) ≤ sizes xs
    pub whole : sum +ℤ int_sum (map value (drop i xs)) ≡ int_sum (map value xs)

  triangle : (a b : ℤ) → nat_abs (a +ℤ b) ≤ nat_abs a + nat_abs b
  triangle a b = omega (arith, ints)

  pub summing_none : (xs : List ℕ) → Summing xs 0 (pos 0)
  summing_none xs = record { fits = omega arith; whole = +ℤ_idl (int_sum (map value xs)) }

  pub summing_room : (xs : List ℕ) (i : ℕ) (sum : ℤ) (d : ℕ) → i < length xs → Summing xs i sum → nat_abs (sum +ℤ value (get_or xs i d)) ≤ sizes xs
  summing_room xs i sum d within is =
      omega (arith, is.fits, ap sizes (drop_more xs i d within), sum_by-cons (λ n. nat_abs (value n)) (get_or xs i d) (drop (i + 1) xs), triangle sum (value (get_or xs i d)))

  pub summing_more : (xs : List ℕ) (i : ℕ) (sum : ℤ) (d : ℕ) → i < length xs → Summing xs i sum → Summing xs (i + 1) (sum +ℤ value (get_or xs i d))
  summing_more xs i sum d within is = record {
    fits = omega (arith, is.fits, ap sizes (drop_more xs i d within), sum_by-cons (λ n. nat_abs (value n)) (get_or xs i d) (drop (i + 1) xs), triangle sum (value (get_or xs i d)));
    whole = +ℤ_assoc sum (value (get_or xs i d)) (int_sum (map value (drop (i + 1) xs)))
        ∙ sym (ap (λ (l : List ℕ). sum +ℤ int_sum (map value l)) (drop_more xs i d within)) ∙ is.whole;
  }

  pub summing_all : (xs : List ℕ) (i : ℕ) (sum : ℤ) → length xs ≤ i → Summing xs i sum → sum ≡ int_sum (map value xs)
  summing_all xs i sum past is =
      sym (+ℤ_idr sum) ∙ sym (ap (λ (l : List ℕ). sum +ℤ int_sum (map value l)) (drop_all i xs past)) ∙ is.whole

  -- a sum whose size is small is what is read back of its bits
  read_back : (z : ℤ) → nat_abs z < 2 ^ 63 → to_z w64 (of_z w64 z) ≡ z
  read_back z small = to_z-of_z w64 z (fits_signed_from_abs w64 z small)

  value_below : (xs : List ℕ) (i : ℕ) (sum : ℤ) (d : ℕ) → i < length xs → Summing xs i sum → nat_abs (value (get_or xs i d)) ≤ sizes xs
  value_below xs i sum d within is =
      omega (arith, is.fits, ap sizes (drop_more xs i d within), sum_by-cons (λ n. nat_abs (value n)) (get_or xs i d) (drop (i + 1) xs))

  -- the next value, as the code reads it, fits, and adds up
  next_back : (xs : List ℕ) (i : ℕ) (sum z : ℤ) (d : ℕ) → z ≡ value (get_or xs i d) → i < length xs → Summing xs i sum → sizes xs < 2 ^ 63 → to_z w64 (of_z w64 z) ≡ value (get_or xs i d)
  next_back xs i sum z d is within so small =
      ap (λ y. to_z w64 (of_z w64 y)) is ∙ read_back (value (get_or xs i d)) (omega (arith, value_below xs i sum d within so, small))

  pub next_fits : (xs : List ℕ) (i : ℕ) (sum z : ℤ) (d : ℕ) → z ≡ value (get_or xs i d) → i < length xs → Summing xs i sum → sizes xs < 2 ^ 63
      → SFits w64 (sum +ℤ to_z w64 (of_z w64 z))
  next_fits xs i sum z d is within so small =
      subst (λ y. SFits w64 (sum +ℤ y)) (sym (next_back xs i sum z d is within so small))
      (fits_signed_from_abs w64 (sum +ℤ value (get_or xs i d)) (omega (arith, summing_room xs i sum d within so, small)))

  pub next_sum : (xs : List ℕ) (i : ℕ) (sum z : ℤ) (d : ℕ) → z ≡ value (get_or xs i d) → i < length xs → Summing xs i sum → sizes xs < 2 ^ 63
      → Summing xs (i + 1) (to_z w64 (of_z w64 (sum +ℤ to_z w64 (of_z w64 z))))
  next_sum xs i sum z d is within so small =
      subst (Summing xs (i + 1))
      (sym (ap (λ y. to_z w64 (of_z w64 (sum +ℤ y))) (next_back xs i sum z d is within so small)
      ∙ read_back (sum +ℤ value (get_or xs i d)) (omega (arith, summing_room xs i sum d within so, small))))
      (summing_more xs i sum d within so)
