-- Loops that put the texts of names in turn, and add up their flats on the way.
use Rattle.std.proofs.Common.{◌≡◌, ℕ, ◌+◌, ◌<◌, ◌≤◌, ◌^◌, ℤ, pos, ◌+ℤ◌, nat_abs, w64, FitsSigned, to_z, of_z, List, ◌++◌, length, map, drop, get_or, sum_by, sym, ap, ◌∙◌, arith, append_assoc}
use Rattle.std.proofs.lemmas.Int.{fits_signed_from_abs, to_z-of_z}
use Rattle.std.proofs.lemmas.List.{drop_more, drop_all, append-nil}
use Rattle.std.proofs.lemmas.List.Sums.{sum_by-cons}
use Rattle.pp_base.proofs.Sums.{triangle}
use Rattle.pp_graph.specs.KeyRows.{running_text}

module _ (flat : ℕ → ℤ) where
  -- what the flats of these numbers can add up to
  abbrev pub sizes : List ℕ → ℕ
  sizes order = sum_by (λ n. nat_abs (flat n)) order

  -- the sum so far leaves room for the flats that are left
  abbrev pub Summing : List ℕ → ℕ → ℤ → Type 0
  Summing order i sum = nat_abs sum + sizes (drop i order) ≤ sizes order

  next_sizes : (order : List ℕ) (i d : ℕ) → i < length order → sizes (drop i order) ≡ nat_abs (flat (get_or order i d)) + sizes (drop (i + 1) order)
  next_sizes order i d within =
      ap sizes (drop_more order i d within) ∙ sum_by-cons (λ n. nat_abs (flat n)) (get_or order i d) (drop (i + 1) order)

  pub summing_more : (order : List ℕ) (i : ℕ) (sum : ℤ) (d : ℕ) → i < length order → Summing order i sum
      → Summing order (i + 1) (sum +ℤ flat (get_or order i d))
  summing_more order i sum d within is =
      omega (arith, is, next_sizes order i d within, triangle sum (flat (get_or order i d)))

  -- a sum whose size is small is what is read back of its bits
  read_back : (z : ℤ) → nat_abs z < 2 ^ 63 → to_z w64 (of_z w64 z) ≡ z
  read_back z small = to_z-of_z w64 z (fits_signed_from_abs w64 z small)

  -- the next sum fits
  pub next_small : (order : List ℕ) (i : ℕ) (sum : ℤ) (d : ℕ) → i < length order → Summing order i sum → sizes order < 2 ^ 63
      → nat_abs (sum +ℤ flat (get_or order i d)) < 2 ^ 63
  next_small order i sum d within is small =
      omega (arith, is, small, next_sizes order i d within, triangle sum (flat (get_or order i d)))

  pub flat_small : (order : List ℕ) (i : ℕ) (sum : ℤ) (d : ℕ) → i < length order → Summing order i sum → sizes order < 2 ^ 63
      → nat_abs (flat (get_or order i d)) < 2 ^ 63
  flat_small order i sum d within is small = omega (arith, is, small, next_sizes order i d within)

  pub next_fits : (order : List ℕ) (i : ℕ) (sum : ℤ) (d : ℕ) → i < length order → Summing order i sum → sizes order < 2 ^ 63
      → FitsSigned w64 (sum +ℤ to_z w64 (of_z w64 (flat (get_or order i d))))
  next_fits order i sum d within is small =
      rw (read_back (flat (get_or order i d)) (flat_small order i sum d within is small))
      (fits_signed_from_abs w64 (sum +ℤ flat (get_or order i d)) (next_small order i sum d within is small))

  -- the next sum, as the machine has it
  pub next_sum : (order : List ℕ) (i : ℕ) (sum : ℤ) (d : ℕ) → i < length order → Summing order i sum → sizes order < 2 ^ 63
      → to_z w64 (of_z w64 (sum +ℤ to_z w64 (of_z w64 (flat (get_or order i d))))) ≡ sum +ℤ flat (get_or order i d)
  next_sum order i sum d within is small =
      ap (λ z. to_z w64 (of_z w64 (sum +ℤ z))) (read_back (flat (get_or order i d)) (flat_small order i sum d within is small))
      ∙ read_back (sum +ℤ flat (get_or order i d)) (next_small order i sum d within is small)

module _ {A : Type 0} (flat : A → ℤ) (text : ℤ → A → List ℕ) (item : ℕ → A) where
  -- the texts so far, and those that are left
  abbrev pub Putting : List ℕ → List ℕ → ℕ → ℤ → List ℕ → Type 0
  Putting order before i sum out =
      out ++ running_text flat text sum (map item (drop i order)) ≡ before ++ running_text flat text (pos 0) (map item order)

  pub putting_more : (order before : List ℕ) (i : ℕ) (sum next : ℤ) (out new : List ℕ) (d : ℕ) → i < length order
      → next ≡ sum +ℤ flat (item (get_or order i d))
      → Putting order before i sum out → new ≡ out ++ text next (item (get_or order i d))
      → Putting order before (i + 1) next new
  putting_more order before i sum next out new d within is_next so_far e =
      let x : A = item (get_or order i d) in
      let rest : List ℕ = running_text flat text next (map item (drop (i + 1) order)) in
      let step : running_text flat text sum (map item (drop i order)) ≡ text next x ++ rest =
      ap (λ ns. running_text flat text sum (map item ns)) (drop_more order i d within)
      ∙ (λ j. text (sym is_next j) x ++ running_text flat text (sym is_next j) (map item (drop (i + 1) order))) in
      ap (λ o. o ++ rest) e ∙ append_assoc out (text next x) rest ∙ sym (ap (λ r. out ++ r) step) ∙ so_far

  pub putting_all : (order before : List ℕ) (i : ℕ) (sum : ℤ) (out : List ℕ) → length order ≤ i
      → Putting order before i sum out → out ≡ before ++ running_text flat text (pos 0) (map item order)
  putting_all order before i sum out past so_far =
      sym (append-nil out) ∙ sym (ap (λ ns. out ++ running_text flat text sum (map item ns)) (drop_all i order past)) ∙ so_far
