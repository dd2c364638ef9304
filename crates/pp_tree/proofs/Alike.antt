-- Lists of numbers with the same counts, and what they pick.
use Rattle.std.proofs.Common.{◌≡◌, ℕ, zero, suc, ◌+◌, ◌<◌, ◌≤◌, Bool, true, false, cond, eqb, List, [], ◌∷◌, ◌++◌, length, get_or, Option, Some, None, refl, sym, ap, subst, ◌∙◌, arith, append_assoc, length-append}
use Rattle.std.specs.List.{filter, filter_map, cons_option, range_with_len}
use Rattle.std.specs.List.Sorted.{IsPermutation}
use Rattle.std.specs.Option.{option_map_or}
use Rattle.std.proofs.lemmas.Bool.{eq-eqb, eqb-true, ne_eqb, false≢true}
use Rattle.std.proofs.lemmas.List.Elements.{filter_map-append}
use Rattle.std.proofs.lemmas.List.Sorted.{IsPermutation-refl, IsPermutation-sym, IsPermutation-trans, IsPermutation-cons, IsPermutation-middle}
use Rattle.std.proofs.lemmas.List.Sums.{sum_by-cons, sum_by-append}
use Rattle.std.proofs.Math.Nat.{lt_of_not-le}
use Rattle.std.proofs.Math.Seq.{get_or-append_seam}
use Rattle.pp_graph.specs.Lists.{occurrences, once_if}

-- one more item, and one test
times-cons : (m x : ℕ) (xs : List ℕ) → occurrences m (x ∷ xs) ≡ cond (eqb x m) 1 0 + occurrences m xs
times-cons m x xs = sum_by-cons (λ k. cond (eqb k m) 1 0) x xs

times-append : (m : ℕ) (xs ys : List ℕ) → occurrences m (xs ++ ys) ≡ occurrences m xs + occurrences m ys
times-append m xs ys = sum_by-append (λ k. cond (eqb k m) 1 0) xs ys

times-self : (x : ℕ) (xs : List ℕ) → occurrences x (x ∷ xs) ≡ 1 + occurrences x xs
times-self x xs = times-cons x x xs ∙ ap (λ b. cond b 1 0 + occurrences x xs) (eq-eqb x x refl)

-- a list cut at an item
record Cut (x : ℕ) (xs : List ℕ) : Type 0 where
  before : List ℕ
  after : List ℕ
  is : xs ≡ before ++ x ∷ after

found : (x : ℕ) (xs : List ℕ) → 0 < occurrences x xs → Cut x xs
found x [] some = absurd (let no : 0 < 0 = some in omega (arith, no))
found x (y ∷ ys) some =
    elim (eqb y x) as (λ b. eqb y x ≡ b → Cut x (y ∷ ys)) [
      | true ↦ λ e. record { before = []; after = ys; is = ap (λ z. z ∷ ys) (eqb-true y x e) }
      | false ↦ λ e.
          let rest = found x ys (omega (arith, some, times-cons x y ys, ap {B = ℕ} (λ b. cond b 1 0) e)) in
          record { before = y ∷ rest.before; after = rest.after; is = ap (λ zs. y ∷ zs) rest.is }
    ] refl

-- equal counts give equal items in some order
pub alike : {Y : Type 0} (h : ℕ → Option Y) (xs ys : List ℕ) → ((m : ℕ) → occurrences m xs ≡ occurrences m ys) → IsPermutation (filter_map h xs) (filter_map h ys)
alike h [] [] same = IsPermutation-refl []
alike h [] (y ∷ ys) same = absurd (omega (arith, same y, times-self y ys))
alike h (x ∷ xs) ys same =
    let cut = found x ys (omega (arith, same x, times-self x xs)) in
    let left : (m : ℕ) → occurrences m xs ≡ occurrences m (cut.before ++ cut.after) = λ m.
    omega (
      arith,
      same m,
      times-cons m x xs,
      ap (occurrences m) cut.is,
      times-append m cut.before (x ∷ cut.after),
      times-cons m x cut.after,
      times-append m cut.before cut.after,
    ) in
    let rest : IsPermutation (filter_map h xs) (filter_map h cut.before ++ filter_map h cut.after) =
    subst (λ zs. IsPermutation (filter_map h xs) zs) (filter_map-append h cut.before cut.after) (alike h xs (cut.before ++ cut.after) left) in
    subst (λ zs. IsPermutation (filter_map h (x ∷ xs)) zs) (sym (ap (filter_map h) cut.is ∙ filter_map-append h cut.before (x ∷ cut.after)))
    (placed (h x) (filter_map h xs) (filter_map h cut.before) (filter_map h cut.after) rest) where
      placed : {Y : Type 0} (o : Option Y) (zs us vs : List Y) → IsPermutation zs (us ++ vs) → IsPermutation (cons_option o zs) (us ++ cons_option o vs)
      placed None zs us vs p = p
      placed (Some y) zs us vs p =
          IsPermutation-trans (y ∷ zs) (y ∷ (us ++ vs)) (us ++ y ∷ vs) (IsPermutation-cons y zs (us ++ vs) p)
          (IsPermutation-sym (us ++ y ∷ vs) (y ∷ (us ++ vs)) (IsPermutation-middle us y vs))

-- counts in a filtered list
times-filter : (test : ℕ → Bool) (m : ℕ) (xs : List ℕ) → occurrences m (filter test xs) ≡ cond (test m) (occurrences m xs) 0
times-filter test m [] = elim (test m) as (λ b. occurrences m [] ≡ cond b (occurrences m []) 0) [ true ↦ refl | false ↦ refl ]
times-filter test m (x ∷ xs) =
    elim (eqb x m) as (λ e. eqb x m ≡ e → occurrences m (filter test (x ∷ xs)) ≡ cond (test m) (occurrences m (x ∷ xs)) 0) [
      | true ↦ λ e.
          let same : test x ≡ test m = ap test (eqb-true x m e) in
          elim (test m) as (λ b. test m ≡ b → occurrences m (filter test (x ∷ xs)) ≡ cond b (occurrences m (x ∷ xs)) 0) [
            | true ↦ λ t.
                ap (λ b. occurrences m (cond b (x ∷ filter test xs) (filter test xs))) (same ∙ t)
                ∙ (let rest : occurrences m (filter test xs) ≡ occurrences m xs = times-filter test m xs ∙ ap (λ b. cond b (occurrences m xs) 0) t in
                omega (arith, rest, times-cons m x (filter test xs), times-cons m x xs))
            | false ↦ λ t.
                ap (λ b. occurrences m (cond b (x ∷ filter test xs) (filter test xs))) (same ∙ t)
                ∙ times-filter test m xs ∙ ap (λ b. cond b (occurrences m xs) 0) t
          ] refl
      | false ↦ λ e.
          let tail : occurrences m (x ∷ xs) ≡ occurrences m xs = omega (arith, times-cons m x xs, ap {B = ℕ} (λ b. cond b 1 0) e) in
          elim (test x) as (λ b. occurrences m (cond b (x ∷ filter test xs) (filter test xs)) ≡ cond (test m) (occurrences m (x ∷ xs)) 0) [
            | true ↦ (let head : occurrences m (x ∷ filter test xs) ≡ occurrences m (filter test xs) = omega (arith, times-cons m x (filter test xs), ap {B = ℕ} (λ b. cond b 1 0) e) in head) ∙ times-filter test m xs ∙ ap (λ n. cond (test m) n 0) (sym tail)
            | false ↦ times-filter test m xs ∙ ap (λ n. cond (test m) n 0) (sym tail)
          ]
    ] refl

-- counts in a range
times-past : (a n m : ℕ) → m < a → occurrences m (range_with_len a n) ≡ 0
times-past a zero m past = refl
times-past a (suc n) m past =
    omega (
      arith,
      times-cons m a (range_with_len (a + 1) n),
      ap {B = ℕ} (λ b. cond b 1 0) (ne_eqb a m (λ e. omega (arith, e, past))),
      times-past (a + 1) n m (omega (arith, past)),
    )

times-range : (a n m : ℕ) → a ≤ m → m < a + n → occurrences m (range_with_len a n) ≡ 1
times-range a zero m from to = absurd (omega (arith, from, to))
times-range a (suc n) m from to =
    elim (eqb a m) as (λ b. eqb a m ≡ b → occurrences m (range_with_len a (suc n)) ≡ 1) [
      | true ↦ λ e. omega (arith, times-cons m a (range_with_len (a + 1) n), ap {B = ℕ} (λ b. cond b 1 0) e, times-past (a + 1) n m (let at : a ≡ m = eqb-true a m e in omega (arith, at)))
      | false ↦ λ e.
          omega (
            arith,
            times-cons m a (range_with_len (a + 1) n),
            ap {B = ℕ} (λ b. cond b 1 0) e,
            times-range (a + 1) n m (let apart : a ≡ m → ⊥ = λ at. false≢true (sym e ∙ eq-eqb a m at) in omega (arith, from, apart)) (omega (arith, to)),
          )
    ] refl

-- the numbers below n that pass a test that none from n on passes
pub times-below : (test : ℕ → Bool) (n m : ℕ) → (n ≤ m → test m ≡ false) → occurrences m (filter test (range_with_len 0 n)) ≡ once_if (test m)
times-below test n m past =
    times-filter test m (range_with_len 0 n)
    ∙ elim (test m) as (λ b. test m ≡ b → cond b (occurrences m (range_with_len 0 n)) 0 ≡ once_if b) [
      | true ↦ λ t. times-range 0 n m (omega arith) (let within : m < n = lt_of_not-le (λ over. false≢true (sym (past over) ∙ t)) in omega (arith, within))
      | false ↦ λ t. refl
    ] refl

-- the items at the places that pass, in the order of the places
module _ {X : Type 0} (test : X → Bool) where
  -- whether the item at the place passes
  abbrev pub passes_at : List (Option X) → ℕ → Bool
  passes_at xs m = option_map_or test (get_or xs m None) false

  pub picked : (before xs : List (Option X))
      → filter_map (λ m. get_or (before ++ xs) m None) (filter (passes_at (before ++ xs)) (range_with_len (length before) (length xs)))
      ≡ filter test (filter_map (λ x. x) xs)
  picked before [] = refl
  picked before (o ∷ xs) =
      let here : get_or (before ++ o ∷ xs) (length before) None ≡ o = get_or-append_seam before o xs None in
      let one : length before + 1 ≡ length (before ++ o ∷ []) = omega (arith, length-append before (o ∷ [])) in
      let next : filter_map (λ m. get_or (before ++ o ∷ xs) m None) (filter (passes_at (before ++ o ∷ xs)) (range_with_len (length before + 1) (length xs))) ≡ filter test (filter_map (λ x. x) xs) =
      ap (λ (zs : List (Option X)). filter_map (λ m. get_or zs m None) (filter (passes_at zs) (range_with_len (length before + 1) (length xs)))) (sym (append_assoc before (o ∷ []) xs))
      ∙ ap (λ (n : ℕ). filter_map (λ m. get_or ((before ++ o ∷ []) ++ xs) m None) (filter (passes_at ((before ++ o ∷ []) ++ xs)) (range_with_len n (length xs)))) one
      ∙ picked (before ++ o ∷ []) xs in
      let all : List ℕ = filter (passes_at (before ++ o ∷ xs)) (range_with_len (length before + 1) (length xs)) in
      ap (λ p. filter_map (λ m. get_or (before ++ o ∷ xs) m None) (cond (option_map_or test p false) (length before ∷ all) all)) here
      ∙ step o (before ++ o ∷ xs) (length before) here all (filter_map (λ x. x) xs) next where
        step : (o : Option X) (zs : List (Option X)) (at : ℕ) → get_or zs at None ≡ o → (all : List ℕ) (rest : List X)
            → filter_map (λ m. get_or zs m None) all ≡ filter test rest
            → filter_map (λ m. get_or zs m None) (cond (option_map_or test o false) (at ∷ all) all) ≡ filter test (cons_option o rest)
        step None zs at here all rest next = next
        step (Some x) zs at here all rest next =
            elim (test x) as (λ b. filter_map (λ m. get_or zs m None) (cond b (at ∷ all) all) ≡ cond b (x ∷ filter test rest) (filter test rest)) [
              | true ↦ λ i. cons_option (here i) (next i)
              | false ↦ next
            ]
