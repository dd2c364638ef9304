-- Parts of a list whose items are gone to on several threads.
use Rattle.std.proofs.Common.{◌≡◌, ℕ, ◌+◌, ◌-◌, List, ◌++◌, length, get_or, arith, sym, ap, subst, ◌∙◌, length-append}
use Rattle.std.proofs.lemmas.List.{get_or_append_left, get_or-append_right}
use Rattle.std.proofs.lemmas.Bool.{cases_lt}
use mathlib.Core.Logic.{⊎_elim}
use Rattle.pp_steal.specs.Spread.{AllFrom, ChangesFrom}

-- what holds of a list holds of its first part
pub all_front : {T : Type 0} (P : ℕ → T → Type 0) (from : ℕ) (all xs ys : List T) → all ≡ xs ++ ys
    → AllFrom P from all → AllFrom P from xs
all_front P from all xs ys is h = record {
  room = omega (arith, h.room, ap length is, length-append xs ys);
  each = λ k other below. subst (P (from + k))
      (ap (λ l. get_or l k other) is ∙ get_or_append_left xs ys other k below)
      (h.each k other (omega (arith, below, ap length is, length-append xs ys)));
}

-- and of the rest
pub all_back : {T : Type 0} (P : ℕ → T → Type 0) (from n : ℕ) (all xs ys : List T) → all ≡ xs ++ ys
    → length xs ≡ n → AllFrom P from all → AllFrom P (from + n) ys
all_back P from n all xs ys is long h = record {
  room = omega (arith, h.room, ap length is, length-append xs ys);
  each = λ k other below.
      let place : from + (n + k) ≡ from + n + k = omega arith in
      let item : get_or all (n + k) other ≡ get_or ys k other =
      ap (λ l. get_or l (n + k) other) is
      ∙ get_or-append_right xs ys n (n + k) other long (omega arith)
      ∙ ap (λ i. get_or ys i other) (let same : n + k - n ≡ k = omega arith in same) in
      subst (λ i. P i (get_or ys k other)) place
      (subst (P (from + (n + k))) item (h.each (n + k) other (omega (arith, below, ap length is, length-append xs ys))));
}

-- a part changed, and the rest: the list is changed
pub changes_both : {T : Type 0} (R : ℕ → T → T → Type 0) (from n : ℕ) (all xs ys xs' ys' : List T)
    → all ≡ xs ++ ys → length xs ≡ n → ChangesFrom R from xs xs' → ChangesFrom R (from + n) ys ys'
    → ChangesFrom R from all (xs' ++ ys')
changes_both {T} R from n all xs ys xs' ys' is long front back = record {
  long = length-append xs' ys' ∙ ap (λ m. m + length ys') front.long ∙ ap (λ m. length xs + m) back.long
      ∙ sym (ap length is ∙ length-append xs ys);
  each = λ k other below.
      let whole : length all ≡ length xs + length ys = ap length is ∙ length-append xs ys in
      ⊎_elim
      (λ in_front.
      let before : get_or xs k other ≡ get_or all k other =
      sym (ap (λ l. get_or l k other) is ∙ get_or_append_left xs ys other k (omega (arith, in_front, long))) in
      let after : get_or xs' k other ≡ get_or (xs' ++ ys') k other =
      sym (get_or_append_left xs' ys' other k (omega (arith, in_front, long, front.long))) in
      subst (λ x. R (from + k) x (get_or (xs' ++ ys') k other)) before
      (subst (R (from + k) (get_or xs k other)) after (front.each k other (omega (arith, in_front, long)))))
      (λ in_back.
      let j = k - n in
      let place : from + n + j ≡ from + k = omega (arith, in_back) in
      let before : get_or ys j other ≡ get_or all k other =
      sym (ap (λ l. get_or l k other) is ∙ get_or-append_right xs ys n k other long in_back) in
      let after : get_or ys' j other ≡ get_or (xs' ++ ys') k other =
      sym (get_or-append_right xs' ys' n k other (front.long ∙ long) in_back) in
      let called : R (from + n + j) (get_or ys j other) (get_or ys' j other) =
      back.each j other (omega (arith, in_back, below, whole, long)) in
      subst (λ x. R (from + k) x (get_or (xs' ++ ys') k other)) before
      (subst (R (from + k) (get_or ys j other)) after
      (subst (λ i. R i (get_or ys j other) (get_or ys' j other)) place called)))
      (cases_lt k n);
}
