-- A text that is cut at its first comma, and one that has none.
use Rattle.std.proofs.Common.{◌≡◌, ℕ, ◌+◌, ◌<◌, Bool, true, false, not, ◌||◌, cond, List, [], ◌∷◌, ◌++◌, length, arith, sym, ap, ◌∙◌, append_assoc}
use Rattle.std.specs.Prelude.{All}
use Rattle.std.specs.List.{list_any, before_first, after_first, position_or_len, slice_split}
use Rattle.std.proofs.lemmas.List.Elements.{All-nil, All-cons}
use Rattle.std.proofs.lemmas.List.Splits.{slice_split_first, slice_split_none}
use Rattle.std.proofs.lemmas.Bool.{or_parts}

-- one item more, that may pass
inside_more : (passes any : Bool) (n m : ℕ) → (passes || any) ≡ true → (any ≡ true → n < m) → cond (not passes) (1 + n) 0 < m + 1
inside_more true any n m some inside = omega arith
inside_more false any n m some inside = let below = inside some in omega arith

-- the first that passes is one of the list
first_inside : (test : ℕ → Bool) (xs : List ℕ) → list_any test xs ≡ true → position_or_len test xs < length xs
first_inside test [] some = let never : ⊥ = cc in absurd never
first_inside test (x ∷ xs) some =
    let more = inside_more (test x) (list_any test xs) (position_or_len test xs) (length xs) some (first_inside test xs) in omega arith

-- no item passes
none_passes : (test : ℕ → Bool) (xs : List ℕ) → list_any test xs ≡ false → All (λ x. test x ≡ false) xs
none_passes test [] none = All-nil (λ x. test x ≡ false)
none_passes test (x ∷ xs) none =
    let parts = or_parts (test x) (list_any test xs) none in
    All-cons (λ y. test y ≡ false) x xs parts.0 (none_passes test xs parts.1)

-- one part more
pub parts_more : (test : ℕ → Bool) (parts new whole : List (List ℕ)) (rest part after : List ℕ) → parts ++ slice_split test rest ≡ whole →
    true ≡ list_any test rest → part ≡ before_first test rest → after ≡ after_first test rest → new ≡ parts ++ part ∷ [] →
    new ++ slice_split test after ≡ whole
parts_more test parts new whole rest part after so_far some before behind added =
    ap (λ ps. ps ++ slice_split test after) added ∙ append_assoc parts (part ∷ []) _
    ∙ ap (λ a. parts ++ part ∷ slice_split test a) behind ∙ ap (λ b. parts ++ b ∷ slice_split test (after_first test rest)) before
    ∙ ap (λ ps. parts ++ ps) (sym (slice_split_first test rest 0 (first_inside test rest (sym some)))) ∙ so_far

-- the last part
pub parts_end : (test : ℕ → Bool) (parts new whole : List (List ℕ)) (rest piece : List ℕ) → parts ++ slice_split test rest ≡ whole →
    false ≡ list_any test rest → piece ≡ rest → new ≡ parts ++ piece ∷ [] → new ≡ whole
parts_end test parts new whole rest piece so_far none is added =
    added ∙ ap (λ p. parts ++ p ∷ []) is ∙ ap (λ ps. parts ++ ps) (sym (slice_split_none test rest (none_passes test rest (sym none)))) ∙ so_far
