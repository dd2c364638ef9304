-- Sums that are kept where they are at most 2^63-1.
use Rattle.std.proofs.Common.{◌≡◌, ℕ, ◌+◌, ◌-◌, ◌^◌, ◌<◌, ◌≤◌, Bool, true, false, cond, List, length, get_or, drop, refl, sym, ap, ◌∙◌, arith}
use Rattle.std.specs.Prelude.{None, Some, nat_lt}
use Rattle.std.specs.List.{sum_by}
use Rattle.std.proofs.lemmas.Bool.{ltb-true, ltb-false, lt-ltb}
use Rattle.std.proofs.lemmas.List.{drop_more}
use Rattle.std.proofs.lemmas.List.Sums.{sum_by-cons}
use Rattle.std.proofs.lemmas.Option.{none-some, same_Some}
use Rattle.pp_merge.specs.Merge.{if_small}

-- a number that isn't kept is greater
pub large_from : (n : ℕ) → if_small n ≡ None → 2 ^ 63 - 1 < n
large_from n none = by (nat_lt (2 ^ 63 - 1) n) (ltb-true (2 ^ 63 - 1) n) none
  where
    by : (b : Bool) → (b ≡ true → 2 ^ 63 - 1 < n) → cond b None (Some n) ≡ None → 2 ^ 63 - 1 < n
    by true holds none = holds refl
    by false holds none = absurd (none-some n (sym none))

-- a greater number isn't kept
pub none_kept : (n : ℕ) → 2 ^ 63 - 1 < n → if_small n ≡ None
none_kept n more = ap (λ b. cond b None (Some n)) (lt-ltb (2 ^ 63 - 1) n more)

-- a number that is kept
pub small_from : (n m : ℕ) → if_small n ≡ Some m → (m ≡ n) × (n ≤ 2 ^ 63 - 1)
small_from n m some = by (nat_lt (2 ^ 63 - 1) n) (ltb-false (2 ^ 63 - 1) n) some
  where
    by : (b : Bool) → (b ≡ false → n ≤ 2 ^ 63 - 1) → cond b None (Some n) ≡ Some m → (m ≡ n) × (n ≤ 2 ^ 63 - 1)
    by true holds some = absurd (none-some m some)
    by false holds some = (sym (same_Some n m some), holds refl)

module _ {A : Type 0} (f : A → ℕ) (xs : List A) (k total whole : ℕ) (d : A) (within : k < length xs) (so_far : total + sum_by f (drop k xs) ≡ whole) where
  one_more : total + (f (get_or xs k d) + sum_by f (drop (k + 1) xs)) ≡ whole
  one_more = ap (λ n. total + n) (sym (sum_by-cons f (get_or xs k d) (drop (k + 1) xs)) ∙ ap (sum_by f) (sym (drop_more xs k d within))) ∙ so_far

  -- the next item makes the sum too large
  pub too_large_with : if_small (total + f (get_or xs k d)) ≡ None → None ≡ if_small whole
  too_large_with none = sym (none_kept whole (omega (arith, one_more, large_from _ none)))

  -- the next item fits
  pub fits_with : (next : ℕ) → if_small (total + f (get_or xs k d)) ≡ Some next → (next ≤ 2 ^ 63 - 1) × (next + sum_by f (drop (k + 1) xs) ≡ whole)
  fits_with next some =
      let (is, small) = small_from (total + f (get_or xs k d)) next some in
      (omega (arith, is, small), omega (arith, is, one_more))
