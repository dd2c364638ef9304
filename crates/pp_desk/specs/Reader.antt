-- A reader of lines: what it holds, which lines are to come from it, and what it answers.
use Rattle.std.specs.Prelude.{◌≡◌, ◌≤◌, ◌++◌, ℕ, nat_lt, ◌==◌, ◌&&◌, not, Bool, true, false, List, [], Option, Some, None, IfSome, option_map, length, take, replicate, if◌then◌else◌}
use Rattle.std.specs.List.{list_any}
use Rattle.pp_desk.specs.declared.input_line.InputLine.{InputLine}
use Rattle.pp_desk.specs.declared.input_line.InputLine.TheVariants as lines
use Rattle.pp_desk.specs.declared.line_reader.LineRead.{LineRead}
use Rattle.pp_desk.specs.declared.line_reader.LineRead.TheVariants as reads
use Rattle.pp_desk.specs.declared.line_reader.TheConstants.{INPUT_LIMIT}
use Rattle.pp_desk.specs.declared.window.TheConstants.{WINDOW_LIMIT}
use Rattle.pp_desk.specs.Lines.{lines_in, lines_of, next_of, after_next}
use Rattle.pp_base.specs.Marks.{is_line_end}

-- What a reader holds: how many bytes of the present line it passed over, since the line is too long. Behind them stand
-- the bytes that it took of the source. It may still take `room` bytes, and `ended` says whether the source has ended.
pub record ReaderHeld : Type 0 where
  pub passed : ℕ
  pub held : List ℕ
  pub room : ℕ
  pub ended : Bool

-- The bytes that were taken and stand in no line that was given. Those that were passed over stand
-- here as 0: of a line that is too long only the length counts.
abbrev pub pending : ReaderHeld → List ℕ
pending r = replicate r.passed 0 ++ r.held

-- what is left of the source, which is not asked again after its end
abbrev pub left_of : Bool → List ℕ → List ℕ
left_of true left = []
left_of false left = left

-- the lines that are to come, where this is left of the source
unfoldable pub to_come : ReaderHeld → List ℕ → List InputLine
to_come r left = lines_in (pending r ++ take r.room (left_of r.ended left))
    (nat_lt (length (left_of r.ended left)) r.room)

-- the next line of those that were to come, where they are told; the others are to come now
abbrev pub GivesNext : Option (List InputLine) → Option (List InputLine) → InputLine → Type 0
GivesNext old new line = IfSome old (λ lines. line ≡ next_of lines) × (new ≡ option_map after_next old)

-- What a reader answers, from the lines that were to come to those that are. Without a line they
-- are the same.
abbrev pub GivesLine : Option (List InputLine) → Option (List InputLine) → LineRead → Type 0
GivesLine old new (reads.Line bytes) = GivesNext old new (lines.Line bytes)
GivesLine old new reads.TooLong = GivesNext old new lines.TooLong
GivesLine old new reads.End = GivesNext old new lines.End
GivesLine old new reads.InputTooLong = GivesNext old new lines.InputTooLong
GivesLine old new reads.Failed = new ≡ old
GivesLine old new reads.Memory = new ≡ old

-- the answer that a reader repeats from now on, if there is one
abbrev pub last_answer : ReaderHeld → Option LineRead
last_answer r =
    if r.ended then (if length (pending r) == 0 then Some reads.End else None)
    else (if r.room == 0 && not (list_any is_line_end (pending r)) then Some reads.InputTooLong
    else None)

-- the answer tells how the input ends
abbrev pub is_ending : LineRead → Bool
is_ending (reads.Line bytes) = false
is_ending reads.TooLong = false
is_ending reads.End = true
is_ending reads.InputTooLong = true
is_ending reads.Failed = false
is_ending reads.Memory = false

-- the lines that are to come of an input, where no reader has begun with it, or this one
abbrev pub lines_from : Option ReaderHeld → List ℕ → List InputLine
lines_from None left = lines_of left
lines_from (Some r) left = to_come r left

-- how many bytes of an input may still be taken, where no reader has begun with it, or this one
abbrev pub room_of : Option ReaderHeld → ℕ
room_of None = INPUT_LIMIT
room_of (Some r) = r.room

-- how many bytes are held that were taken of it, but for those that are passed over
abbrev pub held_by : Option ReaderHeld → ℕ
held_by None = 0
held_by (Some r) = length r.held

-- What is left of an input behind the lines that were read of it. The lines to come are those of the bytes that the
-- reader holds, and then of what is left. It holds at most 131,072 bytes, and those of a line that is too long.
pub record IsLeftBehind (lines : Option (List InputLine)) (left : Option (List ℕ)) : Type 0 where
  pub reader : Option ReaderHeld
  pub few : held_by reader ≤ WINDOW_LIMIT
  pub are : lines ≡ option_map (lines_from reader) left

-- the bytes of an input, as long as no reader has begun with it
abbrev pub unread_by : Option ReaderHeld → Option (List ℕ) → Option (List ℕ)
unread_by None left = left
unread_by (Some r) left = None
