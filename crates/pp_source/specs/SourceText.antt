-- The text of a routine: its sums, and the lines of its source.
use Rattle.std.specs.Prelude.{ℕ, ◌+◌, ℤ, pos, negsuc, zero, suc, Bool, ◌==◌, ◌&&◌, nat_le, nat_lt, List, [], ◌∷◌, ◌++◌, length, codes, decimal, flat_map, Option, Some, None, if◌then◌else◌}
use Rattle.std.specs.List.{filter_map}
use Rattle.std.specs.Ordering.{int_eq}
use Rattle.pp_units.specs.Head.{Facts}
use Rattle.pp_units.specs.Numbers.{value_text, percent_text, right_text}
use Rattle.pp_units.specs.Rows.{value_column}
use Rattle.pp_units.specs.Shown.{Shown}
use Rattle.pp_model.specs.FrameTexts.{Written}
use Rattle.pp_count.specs.Sums.{Seen}
use Rattle.pp_source.specs.declared.source.FileSource.{FileSource}
use Rattle.pp_source.specs.declared.source.FileSource.TheVariants.{NoName, NotFound, TooLong, Whole}
use Rattle.pp_source.specs.declared.amounts.Amounts.{Amounts}
use Rattle.pp_source.specs.Amounts.{routine_amounts, line_amounts}
use Rattle.pp_source.specs.Routines.{runs, is_same_routine}

-- what the whole report comes to
abbrev pub total_line : Facts → List ℕ
total_line h = codes "Total: " ++ value_text (pos h.total) h.unit ++ codes "\n"

-- which function it is, and in which file
abbrev pub title_line : Written → List ℕ
title_line k =
    (codes "ROUTINE ======================== " ++ k.function)
    ++ (codes " in " ++ k.file ++ codes "\n")

-- what part of the total a sum is
abbrev pub part_text : ℤ → ℕ → List ℕ
part_text sum total = codes " (flat, cum) " ++ percent_text sum total ++ codes " of Total\n"

-- both sums of a routine
abbrev pub both_text : Shown → Amounts → List ℕ
both_text unit sums = value_column unit sums.flat ++ codes " " ++ value_column unit sums.cum

-- what a routine comes to, and its part of the total
abbrev pub routine_line : Facts → Amounts → List ℕ
routine_line h sums = both_text h.unit sums ++ part_text sums.cum h.total

-- a sum at the right of ten places, and a point for 0
abbrev pub sum_column : Shown → ℤ → List ℕ
sum_column unit sum =
    if int_eq sum (pos 0) then right_text 10 (codes ".") else value_column unit sum

-- both sums of a line
abbrev pub sums_text : Shown → Amounts → List ℕ
sums_text unit sums = sum_column unit sums.flat ++ codes " " ++ sum_column unit sums.cum

-- the number of a line, and its bytes
abbrev pub numbered_text : ℕ → List ℕ → List ℕ
numbered_text number bytes =
    codes " " ++ right_text 6 (decimal number) ++ codes ":" ++ bytes ++ codes "\n"

-- a line of source with what the samples come to in it
abbrev pub row_text : Shown → Amounts → ℕ → List ℕ → List ℕ
row_text unit sums number bytes = sums_text unit sums ++ numbered_text number bytes

-- the number of a line, where it is above 0
abbrev pub number_above : ℤ → Option ℕ
number_above (pos zero) = None
number_above (pos (suc n)) = Some (suc n)
number_above (negsuc n) = None

-- the numbers above 0 of these lines
abbrev pub numbers_of : List Written → List ℕ
numbers_of lines = filter_map (λ k. number_above k.line) lines

-- the last number of the list that begins with n
abbrev pub last_from : ℕ → List ℕ → ℕ
last_from n [] = n
last_from n (next ∷ ns) = last_from next ns

-- lines, of which the first has this byte in front; a line of its own where there is none
abbrev pub in_first : ℕ → List (List ℕ) → List (List ℕ)
in_first b [] = (b ∷ []) ∷ []
in_first b (line ∷ lines) = (b ∷ line) ∷ lines

-- The lines of a file: each ends at a line end, byte 10, or with the file.
abbrev pub file_lines : List ℕ → List (List ℕ)
file_lines [] = []
file_lines (b ∷ bytes) = if b == 10 then [] ∷ file_lines bytes else in_first b (file_lines bytes)

-- the lines of a source; none where there are no bytes
abbrev pub source_lines : FileSource → List (List ℕ)
source_lines NoName = []
source_lines NotFound = []
source_lines TooLong = []
source_lines (Whole bytes) = file_lines bytes

-- how many lines are shown before the first and after the last that has a frame
abbrev pub around : ℕ
around = 5

-- the line is shown where these are the first and the last with a frame
abbrev pub is_near : ℕ → ℕ → ℕ → Bool
is_near first last number = nat_le first (number + around) && nat_le number (last + around)

module _ (samples : List (Seen Written)) (h : Facts) (k : Written) where
  -- a line of the routine, with its bytes
  abbrev pub line_row : ℕ → List ℕ → List ℕ
  line_row number bytes =
      row_text h.unit (line_amounts samples k number) number bytes

  -- those that are shown of these lines of the file, where the first has this number
  abbrev pub shown_rows : ℕ → ℕ → ℕ → List (List ℕ) → List ℕ
  shown_rows first last number [] = []
  shown_rows first last number (bytes ∷ lines) =
      (if is_near first last number then line_row number bytes else [])
      ++ shown_rows first last (number + 1) lines

  -- the line, where the file has fewer
  abbrev pub past_row : ℕ → ℕ → List ℕ
  past_row count number = if nat_lt count number then line_row number (codes "???") else []

  -- The lines of the file about those with frames, whose numbers rise, and then the numbers past the file's end.
  abbrev pub rows_text : List (List ℕ) → List ℕ → List ℕ
  rows_text lines [] = []
  rows_text lines (first ∷ numbers) =
      shown_rows first (last_from first numbers) 1 lines
      ++ flat_map (past_row (length lines)) (first ∷ numbers)

-- why there is no source
abbrev pub error_line : List ℕ → List ℕ → List ℕ
error_line file reason = codes " Error: " ++ file ++ reason

-- The source of the lines of a routine, or why there is none.
abbrev pub routine_source : List (Seen Written) → Facts → FileSource → Written → List Written → List ℕ
routine_source samples h NoName k lines = error_line (codes "no file name") (codes "\n")
routine_source samples h NotFound k lines = error_line k.file (codes ": no such file\n")
routine_source samples h TooLong k lines =
    error_line k.file (codes ": longer than 134217728 bytes\n")
routine_source samples h (Whole bytes) k lines =
    rows_text samples h k (file_lines bytes) (numbers_of lines)

-- The text of a routine, of which these lines have frames.
abbrev pub routine_text : List (Seen Written) → Facts → FileSource → List Written → List ℕ
routine_text samples h source [] = []
routine_text samples h source (k ∷ lines) =
    (title_line k ++ routine_line h (routine_amounts samples k))
    ++ routine_source samples h source k (k ∷ lines)

-- the file text of lines that have the same
abbrev pub file_of : List Written → List ℕ
file_of [] = []
file_of (k ∷ lines) = k.file

-- The text of all routines of these lines, where each file has this source.
abbrev pub routines_text : List (Seen Written) → Facts → (List ℕ → FileSource) → List Written → List ℕ
routines_text samples h source lines =
    flat_map (λ routine. routine_text samples h (source (file_of routine)) routine)
    (runs is_same_routine lines)

-- The text of the report of these lines.
abbrev pub lines_text : List (Seen Written) → Facts → (List ℕ → FileSource) → List Written → List ℕ
lines_text samples h source lines = total_line h ++ routines_text samples h source lines
