-- Entries by their ids, which are places plus 1 or stand in a set.
use Rattle.std.proofs.Common.{◌≡◌, ℕ, ◌+◌, ◌-◌, ◌<◌, Bool, false, ◌||◌, List, [], ◌∷◌, ◌++◌, length, take, get_or, None, refl, sym, ap, ◌∙◌, inl, inr, if◌then◌else◌, arith}
use Rattle.std.specs.Prelude.{◌==◌, slice_index}
use Rattle.std.specs.List.{list_any, position_or_len, range_with_len}
use Rattle.std.proofs.lemmas.Bool.{eq-eqb, ne_eqb, cases_eq, cases_lt, cond-false, cond-true}
use Rattle.std.proofs.lemmas.List.{take_more}
use Rattle.std.proofs.lemmas.List.FromFn.{get_or-range_with_len, length-range_with_len}
use Rattle.std.proofs.lemmas.List.Sums.{fails_before_first, position_or_len_is}
use Rattle.pp_model.specs.Words.{first_repeated, stands_in, AreNumbered}
use Rattle.pp_share.specs.Behind.{behind_id}
use Rattle.pp_share.specs.Ids.{place_id}
use Rattle.pp_share.proofs.IdLemmas.{place_missed}
use Rattle.pp_share.proofs.JoinLemmas.{flipped, behind_past}

any_flipped : (id : ℕ) (xs : List ℕ) → list_any (λ other. id == other) xs ≡ list_any (λ other. other == id) xs
any_flipped id [] = refl
any_flipped id (x ∷ xs) = (λ j. flipped id x j || any_flipped id xs j)

-- an id that doesn't stand twice isn't among those before it
new_id : (ids : List ℕ) (k : ℕ) → first_repeated ids ≡ None → k < length ids → list_any (λ other. get_or ids k 0 == other) (take k ids) ≡ false
new_id ids k none within =
    let test : ℕ → Bool = λ i. stands_in (take i ids) (get_or ids i 0) in
    let past = place_missed (λ i. stands_in (take i ids) (slice_index ids i)) (range_with_len 0 (length ids)) none in
    let fails = fails_before_first (λ i. stands_in (take i ids) (slice_index ids i)) (range_with_len 0 (length ids)) k 0
    (omega (arith, past, within, length-range_with_len 0 (length ids))) in
    let here : 0 + k ≡ k = omega arith in
    any_flipped (get_or ids k 0) (take k ids)
    ∙ ap (λ i. stands_in (take i ids) (slice_index ids i)) (sym (get_or-range_with_len 0 (length ids) k 0 within ∙ here)) ∙ fails

pub listed_next : (ids keys after : List ℕ) (k : ℕ) → first_repeated ids ≡ None → k < length ids → keys ≡ take k ids
    → after ≡ (if list_any (λ other. get_or ids k 0 == other) keys then keys else keys ++ get_or ids k 0 ∷ []) → after ≡ take (k + 1) ids
listed_next ids keys after k none within keys_are after_is =
    after_is
    ∙ ap (λ b. if b then keys else keys ++ get_or ids k 0 ∷ [])
    ((λ j. list_any (λ other. get_or ids k 0 == other) (keys_are j)) ∙ new_id ids k none within)
    ∙ (λ j. keys_are j ++ get_or ids k 0 ∷ []) ∙ sym (take_more ids k 0 within)

-- Where each id is its place plus 1, an id is the place of its entry plus 1.
pub numbered_same : (ids : List ℕ) → AreNumbered ids → (after id : ℕ) → behind_id after (length ids) id ≡ behind_id after (length ids) (place_id ids id)
numbered_same ids numbered after id = elim (cases_eq id 0) as (λ _. behind_id after (length ids) id ≡ behind_id after (length ids) (place_id ids id)) [
  | inl none ↦ ap (behind_id after (length ids)) (none ∙ sym (cond-true _ _ _ (eq-eqb id 0 none)))
  | inr other ↦ elim (cases_lt (length ids) id) as (λ _. behind_id after (length ids) id ≡ behind_id after (length ids) (place_id ids id)) [
    | inl past ↦
        let missed : position_or_len (λ o. id == o) ids ≡ length ids =
        position_or_len_is (λ o. id == o) ids (length ids) 0 (omega arith)
        (λ k below. ne_eqb id (get_or ids k 0) (λ e. let own = numbered k below in let same : id ≡ get_or ids k 0 = e in omega (arith, own, same, past, below)))
        (λ h. absurd (omega (arith, h))) in
        let place : place_id ids id ≡ length ids + 1 = cond-false _ _ _ (ne_eqb id 0 other) ∙ ap (λ n. n + 1) missed in
        behind_past after (length ids) id past
        ∙ sym (ap (behind_id after (length ids)) place ∙ behind_past after (length ids) (length ids + 1) (omega arith))
    | inr within ↦
        let found : position_or_len (λ o. id == o) ids ≡ id - 1 =
        position_or_len_is (λ o. id == o) ids (id - 1) 0 (omega (arith, within))
        (λ k below. ne_eqb id (get_or ids k 0) (λ e. let own = numbered k (omega (arith, below, within)) in let same : id ≡ get_or ids k 0 = e in omega (arith, own, same, below, other)))
        (λ h. eq-eqb id (get_or ids (id - 1) 0) (let own = numbered (id - 1) h in omega (arith, own, other))) in
        let place : place_id ids id ≡ id = cond-false _ _ _ (ne_eqb id 0 other) ∙ ap (λ n. n + 1) found ∙ omega (arith, other) in
        ap (behind_id after (length ids)) (sym place)
  ]
]
