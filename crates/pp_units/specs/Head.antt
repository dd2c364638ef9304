-- The first three lines of a report's head.
use Rattle.std.specs.Prelude.{ℕ, ℤ, pos, unsigned_abs, int_lt, List, [], ◌∷◌, ◌++◌, codes, if◌then◌else◌}
use Rattle.pp_base.specs.Words.{last_name}
use Rattle.pp_units.specs.declared.head.Head.{Head}
use Rattle.pp_units.specs.Shown.{Shown, shown, picked}
use Rattle.pp_units.specs.Numbers.{value_text}

-- a line of a label and a text, where the text is not empty
abbrev pub labelled : List ℕ → List ℕ → List ℕ
labelled label [] = []
labelled label (b ∷ bs) = label ++ (b ∷ bs) ++ codes "\n"

-- the line of a duration in nanoseconds, in the unit picked for itself, and of the total
abbrev pub known_duration : ℕ → ℕ → Shown → List ℕ
known_duration nanoseconds total unit =
    codes "Duration: "
    ++ value_text (pos nanoseconds) (picked nanoseconds (codes "ns"))
    ++ codes ", Total samples = "
    ++ value_text (pos total) unit
    ++ codes "\n"

-- the line of the duration and of the total, where the duration is above 0
abbrev pub duration_line : ℤ → ℕ → Shown → List ℕ
duration_line duration total unit =
    if int_lt (pos 0) duration then known_duration (unsigned_abs duration) total unit else []

-- The lines of the path of a file, of the name of a type, and of a duration in nanoseconds with the total. The total is
-- printed in the unit. Each line stands as it applies.
unfoldable pub head_lines : List ℕ → List ℕ → ℤ → ℕ → Shown → List ℕ
head_lines file kind duration total unit =
    labelled (codes "File: ") (last_name file)
    ++ labelled (codes "Type: ") kind
    ++ duration_line duration total unit

-- What the first lines of a report say, and how its values are printed.
pub record Facts : Type 0 where
  -- the path of the first mapping's file, or nothing
  pub file : List ℕ
  -- the name of the values' type, or nothing
  pub kind : List ℕ
  -- in nanoseconds
  pub duration : ℤ
  -- what percentages are taken of
  pub total : ℕ
  -- how values are printed
  pub unit : Shown

-- the facts of a `Head`
abbrev pub facts : Head → Facts
facts head = record {
  file = head.file;
  kind = head.kind;
  duration = head.duration;
  total = head.total;
  unit = shown head.unit;
}

-- The lines of these facts.
abbrev pub facts_text : Facts → List ℕ
facts_text h = head_lines h.file h.kind h.duration h.total h.unit

-- the lines of a head
abbrev pub head_text : Head → List ℕ
head_text head = head_lines head.file head.kind head.duration head.total (shown head.unit)
