-- Rows of values added up, and what bounds their sums.
use Rattle.std.specs.List.{AllByRecursion}
use Rattle.std.proofs.lemmas.List.Sums.{fold-append, sum_by-cons}
use Rattle.std.proofs.lemmas.List.{length-replicate}
use Rattle.std.proofs.Common.{◌≡◌, subst, fold, sum_by, ℕ, zero, suc, ◌+◌, ◌<◌, ◌≤◌, ℤ, pos, ◌+ℤ◌, nat_abs, List, [], ◌∷◌, ◌++◌, length, get_or, replicate, refl, sym, ap, ◌∙◌, arith}
use Rattle.std.proofs.Math.IntN.{+ℤ_idl}
use Rattle.std.proofs.lemmas.List.{ext_get_or}
use Rattle.pp_base.proofs.Sums.{triangle}
use Rattle.pp_share.specs.Sums.{added, column_totals}

pub length-added : (xs ys : List ℤ) → length (added xs ys) ≡ length xs
length-added [] ys = refl
length-added (x ∷ xs) [] = refl
length-added (x ∷ xs) (y ∷ ys) = ap (λ n. suc n) (length-added xs ys)

pub get_or-added : (xs ys : List ℤ) (k : ℕ) → k < length xs → length ys ≡ length xs
    → get_or (added xs ys) k (pos 0) ≡ get_or xs k (pos 0) +ℤ get_or ys k (pos 0)
get_or-added [] ys k within as_long = absurd (omega arith)
get_or-added (x ∷ xs) [] k within as_long = absurd (omega arith)
get_or-added (x ∷ xs) (y ∷ ys) zero within as_long = refl
get_or-added (x ∷ xs) (y ∷ ys) (suc k) within as_long = get_or-added xs ys k (omega arith) (omega arith)

-- what each column says of the whole row
pub added_is : (xs ys zs : List ℤ) → length zs ≡ length xs → length ys ≡ length xs
    → ((k : ℕ) → k < length xs → get_or zs k (pos 0) ≡ get_or xs k (pos 0) +ℤ get_or ys k (pos 0)) → zs ≡ added xs ys
added_is xs ys zs wide as_long each =
    ext_get_or (pos 0) zs (added xs ys) (wide ∙ sym (length-added xs ys))
    (λ k within. let lower : k < length xs = omega arith in each k lower ∙ sym (get_or-added xs ys k lower as_long))

-- a row added to zeros
pub added-zeros : (n : ℕ) (ys : List ℤ) → length ys ≡ n → added (replicate n (pos 0)) ys ≡ ys
added-zeros n [] is = subst (λ m. added (replicate m (pos 0)) [] ≡ []) is refl
added-zeros zero (y ∷ ys) is = absurd (omega arith)
added-zeros (suc n) (y ∷ ys) is = (λ j. +ℤ_idl y j ∷ added-zeros n ys (omega arith) j)

-- one more row
pub total_push : (n : ℕ) (rows : List (List ℤ)) (row : List ℤ) → column_totals n (rows ++ row ∷ []) ≡ added (column_totals n rows) row
total_push n rows row = fold-append added (replicate n (pos 0)) rows (row ∷ [])

length-added_all : (rows : List (List ℤ)) (sum : List ℤ) → length (fold added sum rows) ≡ length sum
length-added_all [] sum = refl
length-added_all (row ∷ rows) sum = length-added_all rows (added sum row) ∙ length-added sum row

pub length-total_of : (n : ℕ) (rows : List (List ℤ)) → length (column_totals n rows) ≡ n
length-total_of n rows = length-added_all rows (replicate n (pos 0)) ∙ length-replicate n (pos 0)

-- the absolute values of a column, added up
abbrev pub weight : ℕ → List (List ℤ) → ℕ
weight column rows = sum_by (λ row. nat_abs (get_or row column (pos 0))) rows

abs-added_all : (rows : List (List ℤ)) (sum : List ℤ) (column : ℕ) → column < length sum → AllByRecursion (λ row. length row ≡ length sum) rows
    → nat_abs (get_or (fold added sum rows) column (pos 0)) ≤ nat_abs (get_or sum column (pos 0)) + weight column rows
abs-added_all [] sum column within wide = omega arith
abs-added_all (row ∷ rows) sum column within wide =
    let as_long = length-added sum row in
    let rest = abs-added_all rows (added sum row) column (omega arith) (subst (λ n. AllByRecursion (λ r. length r ≡ n) rows) (sym as_long) wide.1) in
    let first = get_or-added sum row column within wide.0 in
    let more = triangle (get_or sum column (pos 0)) (get_or row column (pos 0)) in
    let at = ap nat_abs first in
    omega (arith, rest, at, more, sum_by-cons (λ (r : List ℤ). nat_abs (get_or r column (pos 0))) row rows)

get_or-zeros : (n column : ℕ) → nat_abs (get_or (replicate n (pos 0)) column (pos 0)) ≡ 0
get_or-zeros zero column = refl
get_or-zeros (suc n) zero = refl
get_or-zeros (suc n) (suc column) = get_or-zeros n column

-- the sum of a column is within the sum of its absolute values
pub abs-total_of : (n : ℕ) (rows : List (List ℤ)) (column : ℕ) → column < n → AllByRecursion (λ row. length row ≡ n) rows
    → nat_abs (get_or (column_totals n rows) column (pos 0)) ≤ weight column rows
abs-total_of n rows column within wide =
    let long = length-replicate n (pos 0) in
    let all = abs-added_all rows (replicate n (pos 0)) column (omega arith) (subst (λ m. AllByRecursion (λ r. length r ≡ m) rows) (sym long) wide) in
    omega (arith, all, get_or-zeros n column)
