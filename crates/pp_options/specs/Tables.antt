-- Tables of names, and of the options that the help tells.
use Rattle.std.specs.Prelude.{ℕ, List, Option, Some, None, option_map, find, bytes_eq}
use Rattle.std.specs.Borrow.{Bor}
use Rattle.std.specs.List.{filter_map}
use Rattle.pp_options.specs.declared.table.Row.{Row}
use Rattle.pp_options.specs.declared.table.Row.TheVariants as rows

-- a text, as a table of the code has it
abbrev pub Bytes : Type 0
Bytes = record { now : List ℕ }

-- an entry of a table of names: a name, and what it stands for
abbrev pub TableEntry : Type 0 → Type 0
TableEntry T = Bytes × T

-- a row of a table of options
abbrev pub TableRow : Type 0 → Type 0
TableRow T = Row Bytes T

-- such a text, as a body reads it
abbrev pub bytes_of : Bor (List ℕ) → Bytes
bytes_of text = record { now = text.now }

module _ {T : Type 0} where
  -- an entry, as a body reads it
  abbrev pub entry_of : Bor (List ℕ) × T → TableEntry T
  entry_of named = (bytes_of named.0, named.1)

  -- a row, as a body reads it
  abbrev pub row_of : Row (Bor (List ℕ)) T → TableRow T
  row_of (rows.Text text) = rows.Text (bytes_of text)
  row_of (rows.Option name value) = rows.Option (bytes_of name) value
  row_of (rows.Also name value) = rows.Also (bytes_of name) value

  -- the value of the first entry of the name
  abbrev pub value_named : List (TableEntry T) → List ℕ → Option T
  value_named table name =
      option_map (λ (named : TableEntry T). named.1)
      (find (λ (named : TableEntry T). bytes_eq named.0.now name) table)

  -- the name of a row, and what it stands for
  abbrev pub named_by : TableRow T → Option (TableEntry T)
  named_by (rows.Text text) = None
  named_by (rows.Option name value) = Some (name, value)
  named_by (rows.Also name value) = Some (name, value)

  -- what the first option of the name stands for
  abbrev pub option_in : List (TableRow T) → List ℕ → Option T
  option_in table name = value_named (filter_map named_by table) name
