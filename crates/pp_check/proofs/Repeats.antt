-- The first id that stands earlier, as a scan from the front finds it.
use Rattle.std.proofs.Common.{◌≡◌, ◌+◌, ◌<◌, ◌≤◌, ◌∷◌, [], ℕ, List, Bool, true, false, cond, length, get_or, take, sym, ap, ◌∙◌, arith, zero-add}
use Rattle.std.specs.Prelude.{Some, None, ◌==◌, ◌||◌, nat_lt, slice_index}
use Rattle.std.specs.List.{range_with_len, position_or_len}
use Rattle.std.proofs.lemmas.List.{take_more}
use Rattle.std.proofs.lemmas.List.Folds.{list_any-append}
use Rattle.std.proofs.lemmas.List.FromFn.{get_or-range_with_len, length-range_with_len}
use Rattle.std.proofs.lemmas.List.Sums.{position_or_len_is}
use Rattle.std.proofs.lemmas.Bool.{lt-ltb, le-ltb}
use Rattle.std.proofs.Math.Bool.{or-false}
use Rattle.pp_model.specs.Words.{stands_in, first_repeated}

-- the id at the index stands earlier
abbrev pub repeats : List ℕ → ℕ → Bool
repeats ids k = stands_in (take k ids) (slice_index ids k)

-- no id below the index stands earlier
abbrev pub NoneBelow : List ℕ → ℕ → Type 0
NoneBelow ids i = (k : ℕ) → k < i → repeats ids k ≡ false

-- the item k of the numbers below n is k
place : (n k : ℕ) → k < n → get_or (range_with_len 0 n) k 0 ≡ k
place n k within = get_or-range_with_len 0 n k 0 within ∙ zero-add k

-- the first place whose id stands earlier
first_place : (ids : List ℕ) (i : ℕ) → i ≤ length ids → NoneBelow ids i → (i < length ids → repeats ids i ≡ true)
    → position_or_len (repeats ids) (range_with_len 0 (length ids)) ≡ i
first_place ids i within none here =
    let n = length-range_with_len 0 (length ids) in
    position_or_len_is (repeats ids) (range_with_len 0 (length ids)) i 0 (omega (arith, n))
    (λ k below. ap (repeats ids) (place (length ids) k (omega arith)) ∙ none k below)
    (λ inside. let low : i < length ids = omega (arith, n) in ap (repeats ids) (place (length ids) i low) ∙ here low)

-- a first place gives the answer of the search
found_at : (ids : List ℕ) (i : ℕ) → position_or_len (repeats ids) (range_with_len 0 (length ids)) ≡ i
    → first_repeated ids ≡ cond (nat_lt i (length (range_with_len 0 (length ids)))) (Some i) None
found_at ids i e = ap (λ k. cond (nat_lt k (length (range_with_len 0 (length ids)))) (Some k) None) e

-- the id at the index is the first that stands earlier
pub repeats_first : (ids : List ℕ) (i : ℕ) → i < length ids → NoneBelow ids i → repeats ids i ≡ true → Some i ≡ first_repeated ids
repeats_first ids i within none here =
    let n = length-range_with_len 0 (length ids) in
    sym (found_at ids i (first_place ids i (omega arith) none (λ _. here)) ∙ ap (λ b. cond b (Some i) None) (lt-ltb i _ (omega (arith, n))))

-- no id stands earlier
pub repeats_nowhere : (ids : List ℕ) (i : ℕ) → i ≡ length ids → NoneBelow ids i → None ≡ first_repeated ids
repeats_nowhere ids i past none =
    let n = length-range_with_len 0 (length ids) in
    sym (found_at ids i (first_place ids i (omega arith) none (λ low. absurd (omega arith))) ∙ ap (λ b. cond b (Some i) None) (le-ltb i _ (omega (arith, n))))

-- an id is among the first ones, of which there is one more
pub stands_in_more : (ids : List ℕ) (i id : ℕ) → i < length ids → stands_in (take (i + 1) ids) id ≡ (stands_in (take i ids) id || slice_index ids i == id)
stands_in_more ids i id within =
    ap (λ l. stands_in l id) (take_more ids i 0 within)
    ∙ list_any-append (λ other. other == id) (take i ids) (slice_index ids i ∷ [])
    ∙ ap (λ b. stands_in (take i ids) id || b) (or-false (slice_index ids i == id))
