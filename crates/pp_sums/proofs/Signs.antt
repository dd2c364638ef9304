-- Sums of values that aren't negative: they are 0 only where all values are.
use Rattle.std.proofs.Common.{◌≡◌, Bool, true, false, cond, not, ◌&&◌, ◌||◌, ℤ, pos, ◌+ℤ◌, List, [], ◌∷◌, refl, sym, ap, ◌∙◌, arith}
use Rattle.std.specs.Prelude.{◌≤ℤ◌}
use Rattle.std.specs.List.{AllByRecursion, filter, list_any}
use Rattle.std.specs.Ordering.{int_eq}
use Rattle.std.proofs.lemmas.Bool.{false≢true}
use Rattle.std.proofs.lemmas.Bool.Decides.{Decides-int_eq}
use Rattle.std.proofs.lemmas.Int.{ints}
use Rattle.pp_base.proofs.Lists.{all_by}
use Rattle.pp_count.specs.Sums.{Seen, weighed, sum_where}
use Rattle.pp_laws.specs.Figures.{NoneNegative}
use Rattle.pp_laws.proofs.IntSums.{sum_over}
use Rattle.pp_laws.proofs.Sampling.{part, sum_where_is, sum_where-weighed}

-- the number isn't 0
abbrev pub isnt_zero : ℤ → Bool
isnt_zero v = not (int_eq v (pos 0))

zero_of : (v : ℤ) → v ≡ pos 0 → isnt_zero v ≡ false
zero_of v is = ap not ((Decides-int_eq v (pos 0)).1 is)

-- what is added to a number above 0 leaves it above
more_than_none : (a b : ℤ) → pos 0 ≤ℤ a → pos 0 ≤ℤ b → isnt_zero a ≡ true → isnt_zero (a +ℤ b) ≡ true
more_than_none a b first rest some = by (int_eq (a +ℤ b) (pos 0)) refl
  where
    by : (t : Bool) → int_eq (a +ℤ b) (pos 0) ≡ t → not t ≡ true
    by true is =
        let none : a +ℤ b ≡ pos 0 = (Decides-int_eq (a +ℤ b) (pos 0)).0 is in
        let gone : a ≡ pos 0 = omega (arith, ints, first, rest, none) in
        absurd (false≢true (sym (zero_of a gone) ∙ some))
    by false is = refl

zero_plus : (a b : ℤ) → isnt_zero a ≡ false → isnt_zero (a +ℤ b) ≡ isnt_zero b
zero_plus a b none = by (int_eq a (pos 0)) refl none
  where
    by : (t : Bool) → int_eq a (pos 0) ≡ t → not t ≡ false → isnt_zero (a +ℤ b) ≡ isnt_zero b
    by true is h =
        let gone : a ≡ pos 0 = (Decides-int_eq a (pos 0)).0 is in
        let same : a +ℤ b ≡ b = omega (arith, ints, gone) in
        ap isnt_zero same
    by false is h = absurd (false≢true (sym h))

pub sum_above : {X : Type 0} (f : X → ℤ) (xs : List X) → AllByRecursion (λ x. pos 0 ≤ℤ f x) xs → pos 0 ≤ℤ sum_over f xs
sum_above f [] all = omega (arith, ints)
sum_above f (x ∷ xs) all = let first : pos 0 ≤ℤ f x = all.0 in omega (arith, ints, first, sum_above f xs all.1)

-- Some of the values isn't 0 where their sum isn't.
pub some_is_sum : {X : Type 0} (f : X → ℤ) (xs : List X) → AllByRecursion (λ x. pos 0 ≤ℤ f x) xs
    → list_any (λ x. isnt_zero (f x)) xs ≡ isnt_zero (sum_over f xs)
some_is_sum f [] all = sym (zero_of (pos 0) refl)
some_is_sum f (x ∷ xs) all =
    elim (isnt_zero (f x)) as (λ b. isnt_zero (f x) ≡ b → (b || list_any (λ y. isnt_zero (f y)) xs) ≡ isnt_zero (f x +ℤ sum_over f xs)) [
      | true ↦ λ is. sym (more_than_none (f x) (sum_over f xs) all.0 (sum_above f xs all.1) is)
      | false ↦ λ is. some_is_sum f xs all.1 ∙ sym (zero_plus (f x) (sum_over f xs) is)
    ] refl

-- what one of the items that are left passes
any_left : {X : Type 0} (test keeps : X → Bool) (xs : List X) → list_any test (filter keeps xs) ≡ list_any (λ x. keeps x && test x) xs
any_left test keeps [] = refl
any_left test keeps (x ∷ xs) =
    elim (keeps x) as (λ b. list_any test (cond b (x ∷ filter keeps xs) (filter keeps xs)) ≡ ((b && test x) || list_any (λ y. keeps y && test y) xs)) [
      | true ↦ ap (λ b. test x || b) (any_left test keeps xs)
      | false ↦ any_left test keeps xs
    ]

both_if : (b : Bool) (v : ℤ) → isnt_zero (cond b v (pos 0)) ≡ (isnt_zero v && b)
both_if true v = elim (isnt_zero v) as (λ t. t ≡ (t && true)) [ true ↦ refl | false ↦ refl ]
both_if false v = zero_of (pos 0) refl ∙ elim (isnt_zero v) as (λ t. false ≡ (t && false)) [ true ↦ refl | false ↦ refl ]

part_above : (b : Bool) (v : ℤ) → pos 0 ≤ℤ v → pos 0 ≤ℤ cond b v (pos 0)
part_above true v above = above
part_above false v above = omega (arith, ints)

-- A test is passed by one of the samples that count where their sum isn't 0.
pub found_is_sum : {K : Type 0} (test : List K → Bool) (ss : List (Seen K)) → NoneNegative ss
    → list_any (λ s. test s.keys) (weighed ss) ≡ isnt_zero (sum_where test (weighed ss))
found_is_sum test ss none =
    any_left (λ s. test s.keys) (λ s. isnt_zero s.value) ss
    ∙ (λ i. list_any (λ s. sym (both_if (test s.keys) s.value) i) ss)
    ∙ some_is_sum (part test) ss (all_by (λ s. pos 0 ≤ℤ s.value) (λ s. pos 0 ≤ℤ part test s) (λ s. part_above (test s.keys) s.value) ss none)
    ∙ ap isnt_zero (sym (sum_where_is test ss) ∙ sym (sum_where-weighed test ss))
