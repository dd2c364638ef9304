-- The lines of an input. At most the first 16,777,216 bytes of it are read.
use Rattle.std.specs.Prelude.{ℕ, nat_lt, Bool, true, false, List, [], ◌∷◌, length, take, if◌then◌else◌}
use Rattle.std.specs.List.{slice_split}
use Rattle.pp_desk.specs.declared.line_reader.TheConstants.{LINE_LIMIT, INPUT_LIMIT}
use Rattle.pp_desk.specs.declared.input_line.InputLine.{InputLine}
use Rattle.pp_desk.specs.declared.input_line.InputLine.TheVariants.{Line, TooLong, End, InputTooLong}
use Rattle.pp_base.specs.Words.{is_line_end}

-- a line by its bytes, where there aren't too many
abbrev pub line_of : List ℕ → InputLine
line_of bytes = if nat_lt LINE_LIMIT (length bytes) then TooLong else Line bytes

-- How an input ends that has these bytes behind its last line end. Where the whole of it is short
-- enough, bytes there are a line too.
abbrev pub ending_of : List ℕ → Bool → List InputLine
ending_of rest false = InputTooLong ∷ []
ending_of [] true = End ∷ []
ending_of (byte ∷ bytes) true = line_of (byte ∷ bytes) ∷ End ∷ []

-- each part before a line end is a line, and the part behind the last one tells how the input ends
abbrev pub lines_of_parts : List (List ℕ) → Bool → List InputLine
lines_of_parts [] short = ending_of [] short
lines_of_parts (rest ∷ []) short = ending_of rest short
lines_of_parts (line ∷ next ∷ parts) short = line_of line ∷ lines_of_parts (next ∷ parts) short

-- The lines of an input of which these bytes are read, and then how it ends: they are all of a
-- short input, and of another as many as are read at most.
unfoldable pub lines_in : List ℕ → Bool → List InputLine
lines_in bytes short = lines_of_parts (slice_split is_line_end bytes) short

-- The lines of an input, and then how it ends.
abbrev pub lines_of : List ℕ → List InputLine
lines_of input = lines_in (take INPUT_LIMIT input) (nat_lt (length input) INPUT_LIMIT)

-- the first of the lines that are to come
abbrev pub next_of : List InputLine → InputLine
next_of [] = End
next_of (line ∷ lines) = line

-- what is to come after that: the last, which tells how the input ends, is repeated
abbrev pub after_next : List InputLine → List InputLine
after_next [] = []
after_next (line ∷ []) = line ∷ []
after_next (line ∷ next ∷ lines) = next ∷ lines
