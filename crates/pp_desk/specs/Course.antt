-- The course of a script over an outside that tells: what it does, what it gives, and which
-- patterns it asks.
use Rattle.std.specs.Prelude.{◌≡◌, ℕ, true, false, List, [], ◌∷◌, Option, Some, None, length, drop, map, if◌then◌else◌}
use Rattle.pp_base.specs.FileMap.{FileMap, content_at, with_file, among}
use Rattle.pp_base.specs.Front.{IsFront}
use Rattle.pp_base.specs.Judges.{Answer}
use Rattle.pp_base.specs.Told.{extended}
use Rattle.pp_desk.specs.declared.input_line.InputLine.{InputLine}
use Rattle.pp_desk.specs.Effects.{Effect, ToOut, ToErr, ToFile, FromFile, Outside, outside, Did, DidFront}
use Rattle.pp_desk.specs.Lines.{next_of, after_next}
use Rattle.pp_desk.specs.Script.{Script, Give, Make, WriteOut, WriteErr, ReadFile, WriteFile, Ask, NextLine}
use Rattle.pp_desk.specs.Went.{content_within}
use Rattle.pp_desk.specs.World.{Told}

-- What a script comes to: the effects in order, the value, and the patterns in the order of asking.
pub record Course (T : Type 0) : Type 0 where
  pub effects : List Effect
  pub value : T
  pub asked : List (List ℕ)

-- an effect first
abbrev pub does : {T : Type 0} → Effect → Course T → Course T
does effect c = record { effects = effect ∷ c.effects; value = c.value; asked = c.asked }

-- a pattern first
abbrev pub asks : {T : Type 0} → List ℕ → Course T → Course T
asks pattern c = record { effects = c.effects; value = c.value; asked = pattern ∷ c.asked }

-- The course over these files, locked paths, lines of the input and answers of the matcher. A write
-- to a locked path is no effect, and past the last answer each is yes.
abbrev pub course : {T : Type 0} → Script T → FileMap → List (List ℕ) → List InputLine
    → List Answer → Course T
course (Give x) files locked lines answers = record { effects = []; value = x; asked = [] }
course (Make (WriteOut bytes) script) files locked lines answers =
    does (ToOut bytes) (course (script tt) files locked lines answers)
course (Make (WriteErr bytes) script) files locked lines answers =
    does (ToErr bytes) (course (script tt) files locked lines answers)
course (Make (ReadFile path limit) script) files locked lines answers =
    does (FromFile path)
    (course (script (content_within limit (content_at files path))) files locked lines answers)
course (Make (WriteFile path bytes) script) files locked lines answers =
    if among locked path then course (script false) files locked lines answers
    else does (ToFile path bytes)
    (course (script true) (with_file files path bytes) locked lines answers)
course (Make (Ask pattern) script) files locked lines [] =
    asks pattern (course (script true) files locked lines [])
course (Make (Ask pattern) script) files locked lines (answer ∷ answers) =
    asks pattern (course (script answer.1) files locked lines answers)
course (Make NextLine script) files locked lines answers =
    course (script (next_of lines)) files locked (after_next lines) answers

-- the outside of a moment: both outputs, the files, and the paths that were read
abbrev pub outside_of : Told → Outside
outside_of told = outside told.out told.err told.files told.reads

-- the patterns of answers
abbrev pub patterns : List Answer → List (List ℕ)
patterns answers = map (λ a. a.0) answers

-- All of a course was done, over the answers that were given on the way.
pub record WholeCourse {T : Type 0} (old new : Told) (script : Script T) (files : FileMap)
    (locked : List (List ℕ)) (lines : List InputLine) (value : T) : Type 0 where
  pub given : List Answer
  pub kept : new.answers ≡ extended old.answers given
  pub gave : value ≡ (course script files locked lines given).value
  pub did : Did (outside_of old) (outside_of new) (course script files locked lines given).effects
  pub asked : patterns given ≡ (course script files locked lines given).asked

-- A front of a course was done, over the answers that were given on the way.
pub record FrontCourse {T : Type 0} (old new : Told) (script : Script T) (files : FileMap)
    (locked : List (List ℕ)) (lines : List InputLine) : Type 0 where
  pub given : List Answer
  pub kept : new.answers ≡ extended old.answers given
  pub did : DidFront (outside_of old) (outside_of new)
      (course script files locked lines given).effects
  pub asked : IsFront (patterns given) (course script files locked lines given).asked

-- the answers that were given between two moments, by what was kept at each
abbrev pub given : List Answer → List Answer → List Answer
given old new = drop (length old) new

-- A course as far as the outside tells: the course, and the patterns that were asked in it.
pub record ToldCourse (T : Type 0) : Type 0 where
  pub course : Course T
  pub asked : List (List ℕ)

-- The course is told where files, input and matcher tell what they hold at the start. The matcher also has to tell its
-- answers at the end.
abbrev pub told_course : {T : Type 0} → Script T → Option FileMap → Option (List (List ℕ))
    → Option (List InputLine) → Option (List Answer) → Option (List Answer)
    → Option (ToldCourse T)
told_course script (Some files) (Some locked) (Some lines) (Some old) (Some new) = Some (record {
  course = course script files locked lines (given old new);
  asked = patterns (given old new);
})
told_course script files locked lines old new = None
