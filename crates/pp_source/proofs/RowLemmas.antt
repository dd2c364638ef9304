-- Rows of source, one after the other.
use Rattle.std.proofs.Common.{◌≡◌, ℕ, zero, suc, ◌+◌, ◌-◌, ◌<◌, ◌≤◌, ◌&&◌, min, nat_lt, nat_le, true, false, cond, List, [], ◌∷◌, ◌++◌, Bor, length, map, take, drop, get_or, flat_map, refl, sym, ap, ◌∙◌, append_assoc, arith}
use Rattle.std.specs.Prelude.{codes, Result, Ok, Err, IfOk}
use Rattle.std.proofs.lemmas.Bool.{le-leb, leb-true, lt-ltb, ltb-true}
use Rattle.std.proofs.lemmas.List.{take_more, drop_all, drop_more, get_or-map, length-drop, length-map, append-nil, map-append}
use Rattle.std.specs.List.{cons_option}
use Rattle.std.proofs.lemmas.List.Elements.{filter_map-append}
use Rattle.std.proofs.lemmas.Grind.{flat_map-append}
use Rattle.pp_base.proofs.Booleans.{same_bool}
use Rattle.pp_model.specs.FrameTexts.{Written}
use Rattle.pp_units.specs.Head.{Facts}
use Rattle.pp_count.specs.Sums.{Seen}
use Rattle.pp_source.specs.declared.lines.FoundLine.{FoundLine}
use Rattle.pp_source.specs.declared.source.FileSource.{FileSource}
use Rattle.pp_source.specs.declared.source.FileSource.TheVariants.{Whole}
use Rattle.pp_source.specs.declared.split.SplitSource.{SplitSource}
use Rattle.pp_source.specs.Amounts.{routine_amounts}
use Rattle.pp_source.specs.Ledgers.{line_texts, lines_texts}
use Rattle.pp_source.specs.SourceText.{is_near, last_from, line_row, number_above, numbers_of, past_row, routine_line, routine_text, rows_text, shown_rows, routine_source, source_lines, title_line}
use Rattle.pp_source.proofs.FileLemmas.{told}

-- the last of some numbers
pub last_is : (n : ℕ) (ns : List ℕ) (d : ℕ) → get_or (n ∷ ns) (length ns) d ≡ last_from n ns
last_is n [] d = refl
last_is n (next ∷ ns) d = last_is next ns d

-- which lines are shown, by the places about the span
pub is_shown : (first last count place : ℕ) → count ≤ 18446744073709551615 → place < count
    → is_near first last (place + 1) ≡ (nat_le (first - 6) place && nat_lt place (min count (min (last + 5) 18446744073709551615)))
is_shown first last count place most within =
    (λ i. front i && back i) where
      front : nat_le first (place + 1 + 5) ≡ nat_le (first - 6) place
      front = same_bool _ _
          (λ yes. le-leb (first - 6) place (omega (arith, leb-true first (place + 1 + 5) yes)))
          (λ yes. le-leb first (place + 1 + 5) (omega (arith, leb-true (first - 6) place yes)))

      back : nat_le (place + 1) (last + 5) ≡ nat_lt place (min count (min (last + 5) 18446744073709551615))
      back = same_bool _ _
          (λ yes. lt-ltb place (min count (min (last + 5) 18446744073709551615)) (omega (arith, most, within, leb-true (place + 1) (last + 5) yes)))
          (λ yes. le-leb (place + 1) (last + 5) (omega (arith, ltb-true place (min count (min (last + 5) 18446744073709551615)) yes)))

module _ (samples : List (Seen Written)) (h : Facts) (k : Written) where
  -- lines that aren't shown have no row
  no_rows : (first last n from : ℕ) (lines : List (List ℕ)) → ((j : ℕ) → j < n → j < length lines → is_near first last (from + j + 1) ≡ false)
      → shown_rows samples h k first last (from + 1) lines ≡ shown_rows samples h k first last (from + n + 1) (drop n lines)
  no_rows first last zero from lines hidden = let same : from ≡ from + 0 = omega arith in ap (λ m. shown_rows samples h k first last (m + 1) lines) same
  no_rows first last (suc n) from [] hidden = refl
  no_rows first last (suc n) from (line ∷ lines) hidden =
      let here : from + 1 ≡ from + 0 + 1 = omega arith in
      let next : from + 1 + n ≡ from + suc n = omega arith in
      ap (λ b. cond b (line_row samples h k (from + 1) line) [] ++ shown_rows samples h k first last (from + 1 + 1) lines) (ap (is_near first last) here ∙ hidden 0 (omega arith) (omega arith))
      ∙ no_rows first last n (from + 1) lines
      (λ j below within. let later : from + 1 + j + 1 ≡ from + suc j + 1 = omega arith in ap (is_near first last) later ∙ hidden (suc j) (omega (arith, below)) (omega (arith, within)))
      ∙ ap (λ m. shown_rows samples h k first last (m + 1) (drop n lines)) next

  -- The rows so far, and those of the lines from a place on.
  abbrev pub ShownTo : ℕ → ℕ → List (List ℕ) → List ℕ → List ℕ → ℕ → Type 0
  ShownTo first last lines before out place =
      out ++ shown_rows samples h k first last (place + 1) (drop place lines) ≡ before ++ shown_rows samples h k first last 1 lines

  -- the lines before the place aren't shown
  pub shown_from : (first last place : ℕ) (lines : List (List ℕ)) (before : List ℕ) → ((j : ℕ) → j < place → j < length lines → is_near first last (j + 1) ≡ false)
      → ShownTo first last lines before before place
  shown_from first last place lines before hidden =
      let from : 0 + place ≡ place = omega arith in
      ap (λ rows. before ++ rows)
      (sym
      (no_rows first last place 0 lines (λ j below within. let at : 0 + j ≡ j = omega arith in ap (λ m. is_near first last (m + 1)) at ∙ hidden j below within)
      ∙ ap (λ m. shown_rows samples h k first last (m + 1) (drop place lines)) from))

  -- one more line, which is shown
  pub shown_more : (first last place : ℕ) (lines : List (Bor (List ℕ))) (d : Bor (List ℕ)) (before out new : List ℕ) → place < length lines → is_near first last (place + 1) ≡ true
      → new ≡ out ++ line_row samples h k (place + 1) (get_or lines place d).now
      → ShownTo first last (map told lines) before out place → ShownTo first last (map told lines) before new (place + 1)
  shown_more first last place lines d before out new within near written so_far =
      let line : List ℕ = (get_or lines place d).now in
      let after : List (List ℕ) = drop (place + 1) (map told lines) in
      let split : drop place (map told lines) ≡ line ∷ after =
      drop_more (map told lines) place line (omega (arith, within, length-map lines told)) ∙ ap (λ l. l ∷ after) (get_or-map told lines place d line within) in
      ap (λ o. o ++ shown_rows samples h k first last (place + 1 + 1) after) written
      ∙ append_assoc out (line_row samples h k (place + 1) line) (shown_rows samples h k first last (place + 1 + 1) after)
      ∙ ap (λ b. out ++ (cond b (line_row samples h k (place + 1) line) [] ++ shown_rows samples h k first last (place + 1 + 1) after)) (sym near)
      ∙ ap (λ ls. out ++ shown_rows samples h k first last (place + 1) ls) (sym split) ∙ so_far

  -- the lines from the place on aren't shown
  pub shown_all : (first last place : ℕ) (lines : List (List ℕ)) (before out : List ℕ) → ((j : ℕ) → place ≤ j → j < length lines → is_near first last (j + 1) ≡ false)
      → ShownTo first last lines before out place → out ≡ before ++ shown_rows samples h k first last 1 lines
  shown_all first last place lines before out hidden so_far =
      let rest : List (List ℕ) = drop place lines in
      sym (append-nil out)
      ∙ ap (λ rows. out ++ rows)
      (sym
      (no_rows first last (length rest) place rest (λ j below within. hidden (place + j) (omega arith) (omega (arith, within, length-drop place lines)))
      ∙ ap (shown_rows samples h k first last (place + length rest + 1)) (drop_all (length rest) rest (omega arith))))
      ∙ so_far

  -- The rows past the file's end so far.
  abbrev pub PastTo : ℕ → List ℕ → List ℕ → List ℕ → ℕ → Type 0
  PastTo count numbers before out i = out ≡ before ++ flat_map (past_row samples h k count) (take i numbers)

  past_next : (count : ℕ) (numbers : List ℕ) (i d : ℕ) → i < length numbers
      → flat_map (past_row samples h k count) (take (i + 1) numbers) ≡ flat_map (past_row samples h k count) (take i numbers) ++ past_row samples h k count (get_or numbers i d)
  past_next count numbers i d within =
      ap (flat_map (past_row samples h k count)) (take_more numbers i d within)
      ∙ flat_map-append (past_row samples h k count) (take i numbers) (get_or numbers i d ∷ [])
      ∙ ap (λ r. flat_map (past_row samples h k count) (take i numbers) ++ r) (append-nil (past_row samples h k count (get_or numbers i d)))

  -- one more number, past the end
  pub past_more : (count : ℕ) (numbers before out new : List ℕ) (i d : ℕ) → i < length numbers → nat_lt count (get_or numbers i d) ≡ true
      → new ≡ out ++ line_row samples h k (get_or numbers i d) (codes "???") → PastTo count numbers before out i → PastTo count numbers before new (i + 1)
  past_more count numbers before out new i d within past written so_far =
      written ∙ ap (λ b. out ++ cond b (line_row samples h k (get_or numbers i d) (codes "???")) []) (sym past)
      ∙ ap (λ o. o ++ past_row samples h k count (get_or numbers i d)) so_far
      ∙ append_assoc before (flat_map (past_row samples h k count) (take i numbers)) (past_row samples h k count (get_or numbers i d))
      ∙ ap (λ r. before ++ r) (sym (past_next count numbers i d within))

  -- one more number, within the file
  pub past_same : (count : ℕ) (numbers before out : List ℕ) (i d : ℕ) → i < length numbers → nat_lt count (get_or numbers i d) ≡ false
      → PastTo count numbers before out i → PastTo count numbers before out (i + 1)
  past_same count numbers before out i d within inside so_far =
      so_far
      ∙ ap (λ r. before ++ r)
      (sym (append-nil (flat_map (past_row samples h k count) (take i numbers)))
      ∙ ap (λ b. flat_map (past_row samples h k count) (take i numbers) ++ cond b (line_row samples h k (get_or numbers i d) (codes "???")) []) (sym inside)
      ∙ sym (past_next count numbers i d within))

  -- All rows, after those of the file and those past its end.
  pub rows_are : (lines : List (List ℕ)) (numbers : List ℕ) (first last count : ℕ) (before mid new : List ℕ) → 0 < length numbers → first ≡ get_or numbers 0 first → last ≡ get_or numbers (length numbers - 1) last
      → count ≡ length lines → mid ≡ before ++ shown_rows samples h k first last 1 lines → new ≡ mid ++ flat_map (past_row samples h k count) numbers
      → new ≡ before ++ rows_text samples h k lines numbers
  rows_are lines [] first last count before mid new some at_first at_last counted shown past = absurd (omega (arith, some))
  rows_are lines (n ∷ ns) first last count before mid new some at_first at_last counted shown past =
      let end : length (n ∷ ns) - 1 ≡ length ns = omega arith in
      let is_last : last ≡ last_from n ns = at_last ∙ ap (λ i. get_or (n ∷ ns) i last) end ∙ last_is n ns last in
      past ∙ (λ i. shown i ++ flat_map (past_row samples h k (counted i)) (n ∷ ns))
      ∙ append_assoc before (shown_rows samples h k first last 1 lines) (flat_map (past_row samples h k (length lines)) (n ∷ ns))
      ∙ (λ i. before ++ (shown_rows samples h k (at_first i) (is_last i) 1 lines ++ flat_map (past_row samples h k (length lines)) (n ∷ ns)))

  -- the source of a file's bytes is the rows of its lines
  pub source_is : (split : SplitSource) (bytes numbers : List ℕ) (lines : List Written) → split.source.now ≡ Whole bytes → numbers ≡ numbers_of lines
      → rows_text samples h k (map told split.lines.items) numbers ≡ routine_source samples h split.source.now k lines
  source_is split bytes numbers lines is are =
      (λ i. rows_text samples h k ((split.cut ∙ ap source_lines is) i) (are i)) ∙ ap (λ s. routine_source samples h s k lines) (sym is)

-- the numbers above 0 of lines with one more
pub numbers_next : (lines : List FoundLine) (i : ℕ) (d : FoundLine) → i < length lines
    → numbers_of (lines_texts (take (i + 1) lines)) ≡ numbers_of (lines_texts (take i lines)) ++ cons_option (number_above (line_texts (get_or lines i d)).line) []
numbers_next lines i d within =
    ap (λ ls. numbers_of (lines_texts ls)) (take_more lines i d within)
    ∙ ap numbers_of (map-append line_texts (take i lines) (get_or lines i d ∷ []))
    ∙ filter_map-append (λ (w : Written). number_above w.line) (lines_texts (take i lines)) (line_texts (get_or lines i d) ∷ [])

-- the text of a routine, by its first line
pub routine_is : (samples : List (Seen Written)) (h : Facts) (source : FileSource) (lines : List FoundLine) (line : FoundLine) → 0 < length lines → line ≡ get_or lines 0 line
    → (title_line (line_texts line) ++ routine_line h (routine_amounts samples (line_texts line))) ++ routine_source samples h source (line_texts line) (lines_texts lines)
    ≡ routine_text samples h source (lines_texts lines)
routine_is samples h source [] line some is = absurd (omega (arith, some))
routine_is samples h source (first ∷ lines) line some is =
    ap (λ l. (title_line (line_texts l) ++ routine_line h (routine_amounts samples (line_texts l))) ++ routine_source samples h source (line_texts l) (lines_texts (first ∷ lines))) is

-- one of a result that is Ok
pub if_one : {T E A C : Type 0} (r : Result T E) → (A → C) → IfOk r (λ _. A) → IfOk r (λ _. C)
if_one (Ok x) then_so a = then_so a
if_one (Err e) then_so a = tt
