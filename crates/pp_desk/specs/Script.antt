-- Scripts: what a stage is to do at the outside, step by step, whatever the outside replies.
use Rattle.std.specs.Prelude.{ℕ, Bool, List, [], ◌∷◌, Option, Some, None, true, false, map, suc, zero, if◌then◌else◌}
use Rattle.pp_desk.specs.declared.file_content.FileContent.{FileContent}
use Rattle.pp_desk.specs.declared.input_line.InputLine.{InputLine}

-- One step at the outside: bytes to standard output, bytes to standard error, the read of a path up to a limit, the
-- write of a path. Or a pattern for the matcher, or the next line of standard input.
pub data Step : Type 0 where
  WriteOut : List ℕ → Step
  WriteErr : List ℕ → Step
  ReadFile : List ℕ → ℕ → Step
  WriteFile : List ℕ → List ℕ → Step
  Ask : List ℕ → Step
  NextLine : Step

-- What the outside replies to a step: what stands at the path, whether it was written (else it is
-- locked), whether the pattern was taken (else it was refused), the line.
abbrev pub Reply : Step → Type 0
Reply (WriteOut bytes) = Unit {0}
Reply (WriteErr bytes) = Unit {0}
Reply (ReadFile path limit) = FileContent
Reply (WriteFile path bytes) = Bool
Reply (Ask pattern) = Bool
Reply NextLine = InputLine

-- A script gives a value, or makes a step and goes on by the reply.
pub data Script (T : Type 0) : Type 0 where
  Give : T → Script T
  Make : (step : Step) → (Reply step → Script T) → Script T

-- one script, and then the script that its value asks for
infixl 10 ◌>>=◌
unfoldable pub ◌>>=◌ : {A B : Type 0} → Script A → (A → Script B) → Script B
Give x >>= next = next x
Make step script >>= next = Make step (λ reply. script reply >>= next)

-- bytes to standard output
abbrev pub write_out : List ℕ → Script (Unit {0})
write_out bytes = Make (WriteOut bytes) Give

-- bytes to standard error
abbrev pub write_err : List ℕ → Script (Unit {0})
write_err bytes = Make (WriteErr bytes) Give

-- the content of a path, of at most `limit` bytes
abbrev pub read_file : List ℕ → ℕ → Script FileContent
read_file path limit = Make (ReadFile path limit) Give

-- bytes to a path, and whether they were written
abbrev pub write_file : List ℕ → List ℕ → Script Bool
write_file path bytes = Make (WriteFile path bytes) Give

-- the verdicts of a pattern on subjects, where the pattern was taken
abbrev pub verdicts : (List ℕ → List ℕ → Bool) → List ℕ → List (List ℕ) → Bool → Option (List Bool)
verdicts finds pattern subjects true = Some (map (finds pattern) subjects)
verdicts finds pattern subjects false = None

-- a pattern for the matcher, and its verdicts on the subjects
abbrev pub ask : (List ℕ → List ℕ → Bool) → List ℕ → List (List ℕ) → Script (Option (List Bool))
ask finds pattern subjects =
    Make (Ask pattern) (λ taken. Give (verdicts finds pattern subjects taken))

-- the next line of standard input
abbrev pub next_line : Script InputLine
next_line = Make NextLine Give

-- one script for each item, in order
unfoldable pub each : {A : Type 0} → (A → Script (Unit {0})) → List A → Script (Unit {0})
each script [] = Give tt
each script (x ∷ xs) = do
  _ ← script x
  each script xs

-- One turn after another from a state, while the turns say so, and at most as many as the number says. The second and
-- third arguments are given where a turn ends the loop and where no turn is left.
unfoldable pub repeated : {S T : Type 0} → (S → Script (S × Bool)) → T → T → ℕ → S → Script T
repeated turn ended spent zero state = Give spent
repeated turn ended spent (suc turns) state = do
  next ← turn state
  if next.1 then repeated turn ended spent turns next.0 else Give ended
