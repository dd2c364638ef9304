-- The lines of some bytes, one after the other.
use Rattle.std.proofs.Common.{◌≡◌, ℕ, suc, ◌+◌, ◌<◌, ◌==◌, ◌||◌, Bool, true, false, not, cond, List, [], ◌∷◌, ◌++◌, Bor, length, map, take, drop, refl, sym, ap, ◌∙◌, append_assoc, arith}
use Rattle.std.proofs.lemmas.Bool.{false≢true}
use Rattle.std.proofs.lemmas.List.{append-nil, map-append}
use Rattle.std.specs.List.{before_first, after_first, list_any, position_or_len}
use Rattle.pp_source.specs.SourceText.{file_lines, in_first}

-- what a lent text is
abbrev pub told : Bor (List ℕ) → List ℕ
told text = text.now

-- a line end
abbrev pub is_end : ℕ → Bool
is_end b = b == 10

-- the first line with one more byte
front_next : (b : ℕ) (bytes : List ℕ) → before_first is_end (b ∷ bytes) ≡ cond (b == 10) [] (b ∷ before_first is_end bytes)
front_next b bytes =
    let n : ℕ = position_or_len is_end bytes in
    elim (b == 10) as (λ e. take (cond (not e) (1 + n) 0) (b ∷ bytes) ≡ cond e [] (b ∷ take n bytes)) [
      | true ↦ refl
      | false ↦ more n
    ] where
      more : (n : ℕ) → take (1 + n) (b ∷ bytes) ≡ b ∷ take n bytes
      more n = let one : 1 + n ≡ suc n = omega arith in ap (λ m. take m (b ∷ bytes)) one

-- and what stands after it
back_next : (b : ℕ) (bytes : List ℕ) → after_first is_end (b ∷ bytes) ≡ cond (b == 10) bytes (after_first is_end bytes)
back_next b bytes =
    let n : ℕ = position_or_len is_end bytes in
    elim (b == 10) as (λ e. drop (cond (not e) (1 + n) 0 + 1) (b ∷ bytes) ≡ cond e bytes (drop (n + 1) bytes)) [
      | true ↦ refl
      | false ↦ more n
    ] where
      more : (n : ℕ) → drop (1 + n + 1) (b ∷ bytes) ≡ drop (n + 1) bytes
      more n = let one : 1 + n + 1 ≡ suc (n + 1) = omega arith in ap (λ m. drop m (b ∷ bytes)) one

-- by whether the first byte is a line end
either : (b : ℕ) (bytes front back : List ℕ) → in_first b (file_lines bytes) ≡ (b ∷ front) ∷ file_lines back
    → cond (b == 10) ([] ∷ file_lines bytes) (in_first b (file_lines bytes)) ≡ cond (b == 10) [] (b ∷ front) ∷ file_lines (cond (b == 10) bytes back)
either b bytes front back joined =
    elim (b == 10) as (λ e. cond e ([] ∷ file_lines bytes) (in_first b (file_lines bytes)) ≡ cond e [] (b ∷ front) ∷ file_lines (cond e bytes back)) [
      | true ↦ refl
      | false ↦ joined
    ]

-- bytes are their first line, and the lines of what stands after it
first_line : (b : ℕ) (bytes : List ℕ) → file_lines (b ∷ bytes) ≡ cond (b == 10) [] (b ∷ before_first is_end bytes) ∷ file_lines (cond (b == 10) bytes (after_first is_end bytes))
first_line b [] = either b [] [] [] refl
first_line b (c ∷ bytes) =
    either b (c ∷ bytes) (before_first is_end (c ∷ bytes)) (after_first is_end (c ∷ bytes))
    (ap (in_first b) (first_line c bytes ∙ (λ i. sym (front_next c bytes) i ∷ file_lines (sym (back_next c bytes) i))))

-- nothing stands after a line that has no end
no_more : (bytes : List ℕ) → list_any is_end bytes ≡ false → after_first is_end bytes ≡ []
no_more [] none = refl
no_more (b ∷ bytes) none =
    back_next b bytes
    ∙ elim (b == 10) as (λ e. (e || list_any is_end bytes) ≡ false → cond e bytes (after_first is_end bytes) ≡ []) [
      | true ↦ λ no. absurd (false≢true (sym no))
      | false ↦ λ no. no_more bytes no
    ] none

-- bytes that were cut at their first line end
pub cut_first : (bytes line after : List ℕ) → 0 < length bytes → line ≡ before_first is_end bytes → after ≡ after_first is_end bytes → file_lines bytes ≡ line ∷ file_lines after
cut_first [] line after some front back = absurd (omega (arith, some))
cut_first (b ∷ bytes) line after some front back =
    first_line b bytes ∙ (λ i. sym (front_next b bytes) i ∷ file_lines (sym (back_next b bytes) i)) ∙ (λ i. sym front i ∷ file_lines (sym back i))

-- bytes without a line end
pub cut_all : (bytes : List ℕ) → 0 < length bytes → false ≡ list_any is_end bytes → before_first is_end bytes ≡ bytes → file_lines bytes ≡ bytes ∷ []
cut_all bytes some none whole = cut_first bytes bytes [] some (sym whole) (sym (no_more bytes (sym none)))

-- one more line of the bytes
pub lines_next : (lines new : List (Bor (List ℕ))) (line : Bor (List ℕ)) (rest after bytes : List ℕ) → new ≡ lines ++ line ∷ [] → file_lines rest ≡ line.now ∷ file_lines after
    → map told lines ++ file_lines rest ≡ file_lines bytes → map told new ++ file_lines after ≡ file_lines bytes
lines_next lines new line rest after bytes added cut so_far =
    ap (λ ls. map told ls ++ file_lines after) added
    ∙ ap (λ ls. ls ++ file_lines after) (map-append told lines (line ∷ []))
    ∙ append_assoc (map told lines) (line.now ∷ []) (file_lines after)
    ∙ ap (λ ls. map told lines ++ ls) (sym cut) ∙ so_far

-- no byte is left
pub lines_whole : (lines : List (Bor (List ℕ))) (rest bytes : List ℕ) → rest ≡ [] → map told lines ++ file_lines rest ≡ file_lines bytes → map told lines ≡ file_lines bytes
lines_whole lines rest bytes none so_far = sym (append-nil (map told lines)) ∙ ap (λ r. map told lines ++ file_lines r) (sym none) ∙ so_far
