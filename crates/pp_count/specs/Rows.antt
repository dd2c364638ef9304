-- Rows of numbers, as two flat lists keep them. No public clause cites it.
use Rattle.std.specs.Prelude.{ℕ, ◌+◌, ◌-◌, ◌≤◌, nat_lt, List, [], ◌∷◌, length, take, drop, slice_index_or, if◌then◌else◌}
use Rattle.pp_count.specs.declared.rows.TheConstants.{LONG}

-- the row of the entry: its one number, or those that stand behind their count in the list
abbrev pub row_by : List ℕ → ℕ → List ℕ
row_by long entry =
    if nat_lt entry LONG then entry ∷ []
    else take (slice_index_or long (entry - LONG) 0) (drop (entry - LONG + 1) long)

-- the numbers of the entry's row stand in the list
abbrev pub IsRowWithin : List ℕ → ℕ → Type 0
IsRowWithin long entry =
    LONG ≤ entry → (entry - LONG) + 1 + slice_index_or long (entry - LONG) 0 ≤ length long
