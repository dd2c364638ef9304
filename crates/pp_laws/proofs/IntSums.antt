-- Sums of whole numbers over a list: how they split, compare, and pick one item.
use Rattle.std.proofs.Common.{◌≡◌, ℕ, zero, suc, ◌+◌, ◌≤◌, Bool, true, false, true≢false, cond, ◌||◌, ℤ, pos, neg_ℤ, ◌+ℤ◌, ◌*ℤ◌, nat_abs, List, [], ◌∷◌, ◌++◌, map, Option, Some, None, refl, sym, ap, ◌∙◌, arith}
use Rattle.std.specs.Prelude.{◌≤ℤ◌}
use Rattle.std.specs.List.{AllByRecursion, IsDistinct, filter, filter_map, list_any, sum_by, cons_option}
use Rattle.std.specs.List.Sorted.{IsPermutation}
use Rattle.std.specs.Option.{option_map_or}
use Rattle.std.specs.Cmp.{IsEquivalence}
use Rattle.std.proofs.Math.IntN.{suc_ℤ-*ℤ, *ℤ_comm, *ℤ-zero, zero-*ℤ}
use Rattle.std.proofs.lemmas.Int.{ints}
use Rattle.std.proofs.lemmas.List.Sums.{sum_by-cons}
use Rattle.std.proofs.lemmas.List.Sorted.{sum_by-IsPermutation}
use Rattle.std.proofs.lemmas.Map.Keys.{IsDistinct-head, IsDistinct-tail}
use Rattle.pp_base.proofs.Sums.{triangle, above, below, above_below}
use Rattle.pp_graph.specs.Trimmed.{int_sum}

-- the sum of what the items come to
abbrev pub sum_over : {X : Type 0} → (X → ℤ) → List X → ℤ
sum_over f xs = int_sum (map f xs)

pub sum_same : {X : Type 0} (f g : X → ℤ) (xs : List X) → ((x : X) → f x ≡ g x) → sum_over f xs ≡ sum_over g xs
sum_same f g [] each = refl
sum_same f g (x ∷ xs) each = λ i. each x i +ℤ sum_same f g xs each i

pub sum_none : {X : Type 0} (xs : List X) → sum_over (λ x. pos 0) xs ≡ pos 0
sum_none [] = refl
sum_none (x ∷ xs) = ap (λ v. pos 0 +ℤ v) (sum_none xs)

-- two sums as one
pub sum_plus : {X : Type 0} (f g : X → ℤ) (xs : List X) → sum_over (λ x. f x +ℤ g x) xs ≡ sum_over f xs +ℤ sum_over g xs
sum_plus f g [] = refl
sum_plus f g (x ∷ xs) = omega (arith, ints, sum_plus f g xs)

pub sum-append : {X : Type 0} (f : X → ℤ) (xs ys : List X) → sum_over f (xs ++ ys) ≡ sum_over f xs +ℤ sum_over f ys
sum-append f [] ys = omega (arith, ints)
sum-append f (x ∷ xs) ys = omega (arith, ints, sum-append f xs ys)

pub sum_negated : {X : Type 0} (f : X → ℤ) (xs : List X) → sum_over (λ x. neg_ℤ (f x)) xs ≡ neg_ℤ (sum_over f xs)
sum_negated f [] = refl
sum_negated f (x ∷ xs) = omega (arith, ints, sum_negated f xs)

-- what an item that is left out comes to is 0
pub sum-filter_map : {X Y : Type 0} (f : Y → ℤ) (g : X → Option Y) (xs : List X)
    → sum_over f (filter_map g xs) ≡ sum_over (λ x. option_map_or f (g x) (pos 0)) xs
sum-filter_map f g [] = refl
sum-filter_map f g (x ∷ xs) =
    elim (g x) as (λ o. sum_over f (cons_option o (filter_map g xs)) ≡ option_map_or f o (pos 0) +ℤ sum_over (λ y. option_map_or f (g y) (pos 0)) xs) [
      | None ↦ omega (arith, ints, sum-filter_map f g xs)
      | Some y ↦ ap (λ v. f y +ℤ v) (sum-filter_map f g xs)
    ]

-- a filter that leaves out what comes to 0
pub sum-filter : {X : Type 0} (f : X → ℤ) (test : X → Bool) (xs : List X) → ((x : X) → test x ≡ false → f x ≡ pos 0)
    → sum_over f (filter test xs) ≡ sum_over f xs
sum-filter f test [] none = refl
sum-filter f test (x ∷ xs) none =
    elim (test x) as (λ b. test x ≡ b → sum_over f (cond b (x ∷ filter test xs) (filter test xs)) ≡ f x +ℤ sum_over f xs) [
      | true ↦ λ is. ap (λ v. f x +ℤ v) (sum-filter f test xs none)
      | false ↦ λ is. let gone : f x ≡ pos 0 = none x is in omega (arith, ints, sum-filter f test xs none, gone)
    ] refl

pub sum-map : {X Y : Type 0} (f : Y → ℤ) (g : X → Y) (xs : List X) → sum_over f (map g xs) ≡ sum_over (λ x. f (g x)) xs
sum-map f g [] = refl
sum-map f g (x ∷ xs) = ap (λ v. f (g x) +ℤ v) (sum-map f g xs)

pub sum_each : {X : Type 0} (f g : X → ℤ) (xs : List X) → AllByRecursion (λ x. f x ≡ g x) xs → sum_over f xs ≡ sum_over g xs
sum_each f g [] all = refl
sum_each f g (x ∷ xs) all = λ i. all.0 i +ℤ sum_each f g xs all.1 i

times_suc : (m : ℤ) (n : ℕ) → m *ℤ pos (suc n) ≡ m *ℤ pos n +ℤ m
times_suc m n = *ℤ_comm m (pos (suc n)) ∙ suc_ℤ-*ℤ (pos n) m ∙ ap (λ v. v +ℤ m) (*ℤ_comm (pos n) m)

times_plus : (a b : ℤ) (n : ℕ) → (a +ℤ b) *ℤ pos n ≡ a *ℤ pos n +ℤ b *ℤ pos n
times_plus a b zero = *ℤ-zero (a +ℤ b) ∙ (λ i. sym (*ℤ-zero a) i +ℤ sym (*ℤ-zero b) i)
times_plus a b (suc n) =
    times_suc (a +ℤ b) n ∙ ap (λ v. v +ℤ (a +ℤ b)) (times_plus a b n)
    ∙ crossed (a *ℤ pos n) (b *ℤ pos n) a b
    ∙ (λ i. sym (times_suc a n) i +ℤ sym (times_suc b n) i) where
      crossed : (x y u v : ℤ) → (x +ℤ y) +ℤ (u +ℤ v) ≡ (x +ℤ u) +ℤ (y +ℤ v)
      crossed x y u v = omega (arith, ints)

-- each item multiplied, the sum multiplied
pub sum_times : {X : Type 0} (f : X → ℤ) (n : ℕ) (xs : List X) → sum_over f xs *ℤ pos n ≡ sum_over (λ x. f x *ℤ pos n) xs
sum_times f n [] = zero-*ℤ (pos n)
sum_times f n (x ∷ xs) = times_plus (f x) (sum_over f xs) n ∙ ap (λ v. f x *ℤ pos n +ℤ v) (sum_times f n xs)

-- greater items, greater sums
pub sum_within : {X : Type 0} (f g : X → ℤ) (xs : List X) → AllByRecursion (λ x. f x ≤ℤ g x) xs → sum_over f xs ≤ℤ sum_over g xs
sum_within f g [] all = omega (arith, ints)
sum_within f g (x ∷ xs) all = let first : f x ≤ℤ g x = all.0 in omega (arith, ints, first, sum_within f g xs all.1)

-- no sum is further from 0 than its items together
pub sum_bound : {X : Type 0} (f : X → ℤ) (xs : List X) → nat_abs (sum_over f xs) ≤ sum_by (λ x. nat_abs (f x)) xs
sum_bound f [] = omega arith
sum_bound f (x ∷ xs) = omega (arith, triangle (f x) (sum_over f xs), sum_bound f xs, sum_by-cons (λ y. nat_abs (f y)) x xs)

sum_split : {X : Type 0} (f : X → ℤ) (xs : List X) → sum_over f xs +ℤ pos (sum_by (λ x. below (f x)) xs) ≡ pos (sum_by (λ x. above (f x)) xs)
sum_split f [] = refl
sum_split f (x ∷ xs) = omega (arith, ints, sum_split f xs, above_below (f x), sum_by-cons (λ y. below (f y)) x xs, sum_by-cons (λ y. above (f y)) x xs)

-- the order of the items doesn't matter
pub sum_permuted : {X : Type 0} (f : X → ℤ) (xs ys : List X) → IsPermutation xs ys → sum_over f ys ≡ sum_over f xs
sum_permuted f xs ys moved = omega (arith, ints, sum_split f xs, sum_split f ys, sum_by-IsPermutation (λ x. below (f x)) xs ys moved, sum_by-IsPermutation (λ x. above (f x)) xs ys moved)

module _ {K : Type 0} {same : K → K → Bool} (e : IsEquivalence same) where
  -- none of these is the key
  none_match : (value : ℤ) (k q : K) (keys : List K) → same q k ≡ true → AllByRecursion (λ j. same k j ≡ false) keys
      → sum_over (λ j. cond (same j q) value (pos 0)) keys ≡ pos 0
  none_match value k q [] tied apart = refl
  none_match value k q (j ∷ keys) tied apart =
      elim (same j q) as (λ b. same j q ≡ b → cond b value (pos 0) +ℤ sum_over (λ i. cond (same i q) value (pos 0)) keys ≡ pos 0) [
        | true ↦ λ is. absurd (true≢false (sym (e.symm k j ∙ e.congr j q k is ∙ tied) ∙ apart.0))
        | false ↦ λ is. omega (arith, ints, none_match value k q keys tied apart.1)
      ] refl

  -- of keys that are told apart one is the key
  pub one_match : (value : ℤ) (q : K) (keys : List K) → IsDistinct same keys → list_any (same q) keys ≡ true
      → sum_over (λ k. cond (same k q) value (pos 0)) keys ≡ value
  one_match value q [] apart here = absurd (true≢false (sym here))
  one_match value q (k ∷ keys) apart here =
      elim (same q k) as (λ b. same q k ≡ b → (b || list_any (same q) keys) ≡ true → cond (same k q) value (pos 0) +ℤ sum_over (λ i. cond (same i q) value (pos 0)) keys ≡ value) [
        | true ↦ λ is found.
            let first : cond (same k q) value (pos 0) ≡ value = ap (λ b. cond b value (pos 0)) (e.symm k q ∙ is) in
            omega (arith, ints, first, none_match value k q keys is (IsDistinct-head same k keys apart))
        | false ↦ λ is found.
            let first : cond (same k q) value (pos 0) ≡ pos 0 = ap (λ b. cond b value (pos 0)) (e.symm k q ∙ is) in
            omega (arith, ints, first, one_match value q keys (IsDistinct-tail same k keys apart) found)
      ] refl here
