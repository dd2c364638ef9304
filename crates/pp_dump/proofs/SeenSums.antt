-- Sums of values that are at least 0 tell which keys occur, and what the absolute values add up to.
use Rattle.std.proofs.Common.{◌≡◌, ℕ, zero, suc, ◌+◌, ◌<◌, ℤ, pos, ◌+ℤ◌, nat_abs, Bool, true, false, not, ◌||◌, List, [], ◌∷◌, refl, sym, ap, ◌∙◌, arith}
use Rattle.std.specs.Prelude.{if◌then◌else◌}
use Rattle.std.specs.List.{AllByRecursion, list_any}
use Rattle.std.specs.Ordering.{int_eq}
use Rattle.std.proofs.Math.IntN.{+ℤ_idl}
use Rattle.std.proofs.lemmas.Bool.{false_from_ne_true}
use Rattle.std.proofs.lemmas.Bool.Decides.{Decides-int_eq}
use Rattle.std.proofs.lemmas.List.Sums.{sum_by-cons}
use Rattle.pp_count.specs.Sums.{Seen, weighed, sum_where, absolute}

-- the value is at least 0
abbrev pub IsNatural : ℤ → Type 0
IsNatural v = (n : ℕ) × (v ≡ pos n)

-- a number above 0 isn't 0
nonzero : (m : ℕ) → 0 < m → int_eq (pos m) (pos 0) ≡ false
nonzero m above = false_from_ne_true (int_eq (pos m) (pos 0)) (λ same. let e : m ≡ 0 = ap nat_abs ((Decides-int_eq (pos m) (pos 0)).0 same) in absurd (omega (arith, e, above)))

pub natural_plus : (a b : ℤ) → IsNatural a → IsNatural b → IsNatural (a +ℤ b)
natural_plus a b (n, first) (m, second) = (n + m, (λ i. first i +ℤ second i))

natural_if : (b : Bool) (v : ℤ) → IsNatural v → IsNatural (if b then v else pos 0)
natural_if true v is = is
natural_if false v is = (0, refl)

-- one sample more, of value n, before samples whose sum is m
step : (n m : ℕ) (b rest : Bool) → rest ≡ not (int_eq (pos m) (pos 0))
    → (if not (int_eq (pos n) (pos 0)) then b || rest else rest) ≡ not (int_eq ((if b then pos n else pos 0) +ℤ pos m) (pos 0))
step n m false rest is = by (int_eq (pos n) (pos 0)) ∙ is ∙ ap (λ (v : ℤ). not (int_eq v (pos 0))) (sym (+ℤ_idl (pos m)))
  where
    by : (t : Bool) → (if not t then rest else rest) ≡ rest
    by true = refl
    by false = refl
step zero m true rest is = is ∙ ap (λ (v : ℤ). not (int_eq v (pos 0))) (sym (+ℤ_idl (pos m)))
step (suc n) m true rest is =
    let above : 0 < suc n + m = omega arith in
    ap (λ (t : Bool). if not t then true else rest) (nonzero (suc n) (omega arith))
    ∙ sym (ap not (nonzero (suc n + m) above))

module _ {K : Type 0} where
  abbrev pub AreNatural : List (Seen K) → Type 0
  AreNatural xs = AllByRecursion (λ (s : Seen K). IsNatural s.value) xs

  sum_natural : (test : List K → Bool) (xs : List (Seen K)) → AreNatural xs → IsNatural (sum_where test xs)
  sum_natural test [] all = (0, refl)
  sum_natural test (s ∷ xs) all = natural_plus (if test s.keys then s.value else pos 0) (sum_where test xs) (natural_if (test s.keys) s.value all.0) (sum_natural test xs all.1)

  -- Some sample whose value isn't 0 passes a test exactly where the sum over those that pass isn't 0.
  pub any_by_sum : (test : List K → Bool) (xs : List (Seen K)) → AreNatural xs → list_any (λ (s : Seen K). test s.keys) (weighed xs) ≡ not (int_eq (sum_where test xs) (pos 0))
  any_by_sum test [] all = refl
  any_by_sum test (s ∷ xs) all =
      let sum = sum_natural test xs all.1 in
      let n : ℕ = all.0.0 in
      let rest : Bool = list_any (λ (s : Seen K). test s.keys) (weighed xs) in
      pushed (not (int_eq s.value (pos 0)))
      ∙ ap (λ (v : ℤ). if not (int_eq v (pos 0)) then test s.keys || rest else rest) all.0.1
      ∙ step n sum.0 (test s.keys) rest (any_by_sum test xs all.1 ∙ ap (λ (v : ℤ). not (int_eq v (pos 0))) sum.1)
      ∙ (λ i. not (int_eq ((if test s.keys then sym all.0.1 i else pos 0) +ℤ sym sum.1 i) (pos 0)))
    where
      pushed : (t : Bool) → list_any (λ (s : Seen K). test s.keys) (if t then s ∷ weighed xs else weighed xs)
          ≡ (if t then test s.keys || list_any (λ (s : Seen K). test s.keys) (weighed xs) else list_any (λ (s : Seen K). test s.keys) (weighed xs))
      pushed true = refl
      pushed false = refl

  -- The absolute values add up to the sum.
  pub absolute_by_sum : (xs : List (Seen K)) → AreNatural xs → absolute xs ≡ nat_abs (sum_where (λ _. true) xs)
  absolute_by_sum [] all = refl
  absolute_by_sum (s ∷ xs) all =
      let sum = sum_natural (λ _. true) xs all.1 in
      sum_by-cons (λ (s : Seen K). nat_abs s.value) s xs
      ∙ (λ i. nat_abs (all.0.1 i) + (absolute_by_sum xs all.1 ∙ ap nat_abs sum.1) i)
      ∙ (λ i. nat_abs (sym all.0.1 i +ℤ sym sum.1 i))
