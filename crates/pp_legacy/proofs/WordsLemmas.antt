-- The words of bytes, by their places.
use Rattle.std.proofs.Common.{◌≡◌, ℕ, ◌+◌, ◌-◌, ◌*◌, ◌/◌, ◌<◌, ◌≤◌, List, length, get_or, map, take, drop, refl, sym, ap, ◌∙◌, arith, zero-add}
use Rattle.std.specs.Prelude.{Some, slice_get, slice_range, min}
use Rattle.std.specs.Int.{w64, from_le_bytes}
use Rattle.std.specs.List.{range_with_len}
use Rattle.std.proofs.lemmas.List.{get_or-take, get_or-drop, length-take, length-drop, same_lists}
use Rattle.std.proofs.lemmas.Grind.{same_number_lists}
use Rattle.std.proofs.lemmas.List.FromFn.{length-map-range_with_len, get_or-map-range_with_len}
use Rattle.std.proofs.lemmas.Option.{slice_get-get_or}
use Rattle.pp_legacy.specs.Words.{whole_words, number_at}

-- there is a word for each eight bytes
pub eight_a_word : (bytes : List ℕ) → length (whole_words bytes) ≡ length bytes / 8
unfolding whole_words
eight_a_word bytes = length-map-range_with_len (number_at bytes) 0 (length bytes / 8)

-- the word at a place
get_or-words : (bytes : List ℕ) (i : ℕ) → i < length (whole_words bytes) → get_or (whole_words bytes) i 0 ≡ number_at bytes i
unfolding whole_words
get_or-words bytes i within = get_or-map-range_with_len (number_at bytes) 0 (length bytes / 8) i i 0 (omega (arith, eight_a_word bytes)) (zero-add i)

pub word_is : (bytes : List ℕ) (i : ℕ) → i < length (whole_words bytes) → slice_get (whole_words bytes) i ≡ Some (number_at bytes i)
word_is bytes i within = slice_get-get_or (whole_words bytes) i 0 within ∙ ap Some (get_or-words bytes i within)

-- eight bytes of a part are eight bytes of the whole
eight_of : (bytes : List ℕ) (from to i : ℕ) → 8 * to ≤ length bytes → i < to - from
    → take 8 (drop (8 * i) (drop (8 * from) (take (8 * to) bytes))) ≡ take 8 (drop (8 * (from + i)) bytes)
eight_of bytes from to i fits within =
    let part = drop (8 * from) (take (8 * to) bytes) in
    same_number_lists _ _
    (omega (arith, length-take 8 (drop (8 * i) part), length-drop (8 * i) part, length-drop (8 * from) (take (8 * to) bytes), length-take (8 * to) bytes, length-take 8 (drop (8 * (from + i)) bytes), length-drop (8 * (from + i)) bytes))
    (λ k below.
    let low : k < 8 = omega (arith, length-take 8 (drop (8 * i) part)) in
    get_or-take 8 (drop (8 * i) part) k 0 low
    ∙ get_or-drop (8 * i) part k 0
    ∙ get_or-drop (8 * from) (take (8 * to) bytes) (8 * i + k) 0
    ∙ get_or-take (8 * to) bytes (8 * from + (8 * i + k)) 0 (omega arith)
    ∙ (let e : 8 * from + (8 * i + k) ≡ 8 * (from + i) + k = omega arith in ap (λ n. get_or bytes n 0) e)
    ∙ sym (get_or-drop (8 * (from + i)) bytes k 0)
    ∙ sym (get_or-take 8 (drop (8 * (from + i)) bytes) k 0 low))

-- the words of a part are a part of the words
pub words_between : (bytes : List ℕ) (from to : ℕ) → from ≤ to → to ≤ length (whole_words bytes)
    → whole_words (drop (8 * from) (take (8 * to) bytes)) ≡ slice_range (whole_words bytes) from to
words_between bytes from to forward within =
    let part = drop (8 * from) (take (8 * to) bytes) in
    let fits : 8 * to ≤ length bytes = omega (arith, eight_a_word bytes) in
    let bytes_len : length part ≡ 8 * (to - from) = omega (arith, length-drop (8 * from) (take (8 * to) bytes), length-take (8 * to) bytes) in
    let len : length (whole_words part) ≡ to - from = omega (arith, eight_a_word part) in
    same_number_lists _ _
    (omega (arith, length-take (to - from) (drop from (whole_words bytes)), length-drop from (whole_words bytes)))
    (λ k below.
    let low : k < to - from = omega arith in
    get_or-words part k below
    ∙ ap (from_le_bytes w64) (eight_of bytes from to k fits low)
    ∙ sym (get_or-words bytes (from + k) (omega arith))
    ∙ sym (get_or-drop from (whole_words bytes) k 0)
    ∙ sym (get_or-take (to - from) (drop from (whole_words bytes)) k 0 low))
