-- Lines of bytes that are held and bytes that are still to come.
use Rattle.std.proofs.Common.{◌≡◌, ◌<◌, ◌+◌, ◌++◌, ℕ, Bool, true, false, List, [], ◌∷◌, length, take, refl, sym, ap, ◌∙◌, inl, inr, arith, append_assoc, length-append, nat_lt}
use Rattle.std.specs.List.{slice_split, onto_first}
use Rattle.std.proofs.Math.Seq.{take-append-add}
use Rattle.std.proofs.lemmas.Bool.{cases_Bool}
use Rattle.std.proofs.lemmas.Bool.Decides.{nat_tests}
use Rattle.std.proofs.lemmas.List.Elements.{All-tail}
use Rattle.std.proofs.lemmas.List.Splits.{slice_split-cons_yes, slice_split-cons_no, slice_split_none, slice_split_at}
use Rattle.pp_desk.specs.declared.input_line.InputLine.{InputLine}
use Rattle.pp_desk.specs.declared.input_line.InputLine.TheVariants.{TooLong, End, InputTooLong}
use Rattle.pp_desk.specs.declared.line_reader.TheConstants.{LINE_LIMIT}
use Rattle.pp_desk.specs.Finding.{HasNoEnd}
use Rattle.pp_desk.specs.Lines.{line_of, ending_of, lines_of_parts, lines_in, after_next}
use Rattle.pp_base.specs.Words.{is_line_end}

-- bytes always have a part
pub parted : (bytes : List ℕ) → (part : List ℕ) × (parts : List (List ℕ)) × (slice_split is_line_end bytes ≡ part ∷ parts)
parted [] = ([], [], refl)
parted (x ∷ xs) = elim (cases_Bool (is_line_end x)) [
  | inl ends ↦ ([], slice_split is_line_end xs, slice_split-cons_yes is_line_end x xs ends)
  | inr goes_on ↦ let q = parted xs in (x ∷ q.0, q.1, slice_split-cons_no is_line_end x xs goes_on ∙ ap (onto_first x) q.2)
]

-- the first line ends at the first line end
pub lines_first : (line rest : List ℕ) (short : Bool) → HasNoEnd line → lines_in (line ++ 10 ∷ rest) short ≡ line_of line ∷ lines_in rest short
unfolding lines_in
lines_first line rest short none =
    let q = parted rest in
    rw (slice_split_at is_line_end line 10 rest none refl, q.2) refl

-- no line end: what stands there tells how the input ends
pub lines_last : (rest : List ℕ) (short : Bool) → HasNoEnd rest → lines_in rest short ≡ ending_of rest short
unfolding lines_in
lines_last rest short none = rw (slice_split_none is_line_end rest none) refl

-- bytes in front that end no line go to the first part
front_part : (front bytes part : List ℕ) (parts : List (List ℕ)) → HasNoEnd front → slice_split is_line_end bytes ≡ part ∷ parts → slice_split is_line_end (front ++ bytes) ≡ (front ++ part) ∷ parts
front_part [] bytes part parts none e = e
front_part (x ∷ xs) bytes part parts none e =
    slice_split-cons_no is_line_end x (xs ++ bytes) (none 0 0 (omega arith)) ∙ ap (onto_first x) (front_part xs bytes part parts (All-tail (λ byte. is_line_end byte ≡ false) x xs none) e)

-- a line that is too long
pub too_long : (line : List ℕ) → LINE_LIMIT < length line → line_of line ≡ TooLong
too_long line long = grind (arith, nat_tests)

-- the lines of what nothing ends, where it is too long
ending_long : (line : List ℕ) → LINE_LIMIT < length line → ending_of line true ≡ TooLong ∷ End ∷ []
ending_long [] long = absurd (omega arith)
ending_long (x ∷ xs) long = ap (λ l. l ∷ End ∷ []) (too_long (x ∷ xs) long)

-- of a part that is too long only the length counts
long_parts : (line other : List ℕ) (parts : List (List ℕ)) (short : Bool) → LINE_LIMIT < length line → LINE_LIMIT < length other → lines_of_parts (line ∷ parts) short ≡ lines_of_parts (other ∷ parts) short
long_parts line other [] false long also = refl
long_parts line other [] true long also = ending_long line long ∙ sym (ending_long other also)
long_parts line other (next ∷ parts) short long also = ap (λ l. l ∷ lines_of_parts (next ∷ parts) short) (too_long line long ∙ sym (too_long other also))

-- of a front that is too long only the length counts
pub lines_passed : (front other bytes : List ℕ) (short : Bool) → HasNoEnd front → HasNoEnd other → LINE_LIMIT < length front → length other ≡ length front
    → lines_in (other ++ bytes) short ≡ lines_in (front ++ bytes) short
unfolding lines_in
lines_passed front other bytes short none also long same =
    let q = parted bytes in
    rw (front_part front bytes q.0 q.1 none q.2, front_part other bytes q.0 q.1 also q.2)
    (long_parts (other ++ q.0) (front ++ q.0) q.1 short (omega (arith, length-append other q.0)) (omega (arith, length-append front q.0)))

-- bytes that were to come are held now
pub lines_taken : (front more left : List ℕ) (room : ℕ)
    → lines_in (front ++ take (length more + room) (more ++ left)) (nat_lt (length (more ++ left)) (length more + room)) ≡ lines_in ((front ++ more) ++ take room left) (nat_lt (length left) room)
lines_taken front more left room =
    let tests : nat_lt (length (more ++ left)) (length more + room) ≡ nat_lt (length left) room = less more left room in
    rw (take-append-add more left room, tests, append_assoc) refl
  where
    less : (more left : List ℕ) (room : ℕ) → nat_lt (length (more ++ left)) (length more + room) ≡ nat_lt (length left) room
    less more left room = grind (arith, nat_tests, length-append more left)

-- there is always something to come
some_line : (part : List ℕ) (parts : List (List ℕ)) (short : Bool) → (line : InputLine) × (rest : List InputLine) × (lines_of_parts (part ∷ parts) short ≡ line ∷ rest)
some_line part (next ∷ parts) short = (line_of part, lines_of_parts (next ∷ parts) short, refl)
some_line part [] false = (InputTooLong, [], refl)
some_line [] [] true = (End, [], refl)
some_line (x ∷ xs) [] true = (line_of (x ∷ xs), End ∷ [], refl)

-- so nothing is repeated behind a line that has an end
pub after_first : (line : InputLine) (bytes : List ℕ) (short : Bool) → after_next (line ∷ lines_in bytes short) ≡ lines_in bytes short
unfolding lines_in
after_first line bytes short =
    let q = parted bytes in
    let s = some_line q.0 q.1 short in
    rw (q.2, s.2) refl
