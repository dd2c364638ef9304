-- Lists of pieces, and how often each stands in them.
use Rattle.std.proofs.Common.{◌≡◌, ◌≢◌, ℕ, zero, suc, ◌+◌, ◌<◌, ◌≤◌, eqb, ltb, cond, Bool, true, false, true≢false, List, [], ◌∷◌, ◌++◌, length, sym, refl, ap, subst, arith, eq-eqb, ne_eqb, filter}
use Rattle.std.proofs.lemmas.Bool.Decides.{nat_tests}
use native.Mathlib.Decide.{ℕ_discrete, dec_le}
use Rattle.pp_steal.specs.Pool.{count_in}
use Rattle.pp_steal.specs.Dealing.{upto, AreDistinctPieces}
use Rattle.pp_steal.proofs.Keeps.{times-append}

filter_step : (a b : Bool) (y x n : ℕ) (r : List ℕ) → count_in x r ≡ cond b n 0 → (y ≡ x → a ≡ b) → count_in x (cond a (y ∷ r) r) ≡ cond b (cond (eqb y x) 1 0 + n) 0
filter_step true true y x n r h same = omega arith
filter_step true false y x n r h same = grind (arith, nat_tests, ne_eqb y x (λ e. true≢false (same e)))
filter_step false true y x n r h same = grind (arith, nat_tests, ne_eqb y x (λ e. true≢false (sym (same e))))
filter_step false false y x n r h same = h

pub times-filter : (p : ℕ → Bool) (x : ℕ) (xs : List ℕ) → count_in x (filter p xs) ≡ cond (p x) (count_in x xs) 0
times-filter p x [] = let P : Bool → Type 0 = λ b. count_in x [] ≡ cond b 0 0 in elim (p x) as P [ true ↦ refl | false ↦ refl ]
times-filter p x (y ∷ xs) = filter_step (p y) (p x) y x (count_in x xs) (filter p xs) (times-filter p x xs) (λ e. ap p e)

pub filter-append : (p : ℕ → Bool) (xs ys : List ℕ) → filter p (xs ++ ys) ≡ filter p xs ++ filter p ys
filter-append p [] ys = refl
filter-append p (x ∷ xs) ys = elim (p x) as (λ b. cond b (x ∷ filter p (xs ++ ys)) (filter p (xs ++ ys)) ≡ cond b (x ∷ filter p xs) (filter p xs) ++ filter p ys) [ true ↦ ap (λ (l : List ℕ). x ∷ l) (filter-append p xs ys) | false ↦ filter-append p xs ys ]

pub times-one : (x : ℕ) → count_in x (x ∷ []) ≡ 1
times-one x = rw (eq-eqb x x refl) refl

pub times-other : (y x : ℕ) → y ≢ x → count_in y (x ∷ []) ≡ 0
times-other y x n = rw (ne_eqb x y (λ e. n (sym e))) refl

-- the numbers below n have each of them once
pub times-upto : (x n : ℕ) → (n ≤ x → count_in x (upto n) ≡ 0) × (count_in x (upto n) ≤ 1)
times-upto x zero = ((λ _. refl), omega arith)
times-upto x (suc n) = let h = times-upto x n in let a = times-append x (upto n) (n ∷ []) in
    elim (ℕ_discrete x n) as (λ _. (suc n ≤ x → count_in x (upto (suc n)) ≡ 0) × (count_in x (upto (suc n)) ≤ 1)) [
      | yes e ↦ let one : count_in x (n ∷ []) ≡ 1 = subst (λ (k : ℕ). count_in x (k ∷ []) ≡ 1) e (times-one x) in let none : count_in x (upto n) ≡ 0 = h.0 (omega arith) in ((λ le. absurd (omega arith)), omega arith)
      | no e ↦ let none : count_in x (n ∷ []) ≡ 0 = times-other x n e in ((λ le. let k : count_in x (upto n) ≡ 0 = h.0 (omega arith) in omega arith), omega arith)
    ]

-- how many of the list are below n
abbrev under : ℕ → List ℕ → ℕ
under n [] = 0
under n (x ∷ xs) = cond (ltb x n) 1 0 + under n xs

under_zero : (xs : List ℕ) → under 0 xs ≡ 0
under_zero [] = refl
under_zero (x ∷ xs) = let h = under_zero xs in grind (arith, nat_tests)

under_step : (x n : ℕ) → cond (ltb x (suc n)) 1 0 ≡ cond (ltb x n) 1 0 + cond (eqb x n) 1 0
under_step x n = grind (arith, nat_tests)

under_suc : (n : ℕ) (xs : List ℕ) → under (suc n) xs ≡ under n xs + count_in n xs
under_suc n [] = refl
under_suc n (x ∷ xs) = omega (arith, under_suc n xs, under_step x n)

under_few : (n : ℕ) (xs : List ℕ) → ((x : ℕ) → count_in x xs ≤ 1) → under n xs ≤ n
under_few zero xs once = let h = under_zero xs in omega arith
under_few (suc n) xs once = let h = under_few n xs once in let k = once n in omega (arith, under_suc n xs)

under_all : (n : ℕ) (xs : List ℕ) → ((x : ℕ) → n ≤ x → count_in x xs ≡ 0) → under n xs ≡ length xs
under_all n [] none = refl
under_all n (x ∷ xs) none = let h : under n xs ≡ length xs = under_all n xs (λ y le. let a = none y le in omega arith) in
    let lt : x < n = elim (dec_le n x) as (λ _. x < n) [ yes le ↦ let a = none x le in let b = times-one x in absurd (omega arith) | no more ↦ omega arith ] in
    grind (arith, nat_tests)

-- distinct pieces are no more than all pieces
pub few_pieces : (pieces : ℕ) (xs : List ℕ) → AreDistinctPieces pieces xs → length xs ≤ pieces
few_pieces n xs h = let a = under_all n xs (λ x le. let k = h x in let m = (times-upto x n).0 le in omega arith) in let b = under_few n xs (λ x. let k = h x in let m = (times-upto x n).1 in omega arith) in omega arith
