-- The text of the table report: a line for each key that occurs, with its two sums.
use Rattle.std.specs.Prelude.{ℕ, List, ◌++◌, map, codes, Option}
use Rattle.std.specs.List.{flat_map}
use Rattle.std.specs.Fmt.{signed_decimal}
use Rattle.pp_model.specs.declared.config.Config.{Config}
use Rattle.pp_model.specs.declared.presentation.Presentation.{Presentation}
use Rattle.pp_model.specs.declared.profile.Profile.{Profile}
use Rattle.pp_model.specs.Finders.{Finders}
use Rattle.pp_graph.specs.Figures.{Figures, figures}
use Rattle.pp_graph.specs.KeyRows.{KeyRow, key_row}
use Rattle.pp_graph.specs.Trim.{ordered_keys, shown_keys}
use Rattle.pp_cells.specs.Cells.{behind_slash, cell, cell_text, last_cell}

-- the line above the rows, whose values are in this unit
abbrev pub exact_heading : List ℕ → List ℕ
exact_heading unit =
    cell (codes "flat" ++ behind_slash unit) ++ cell (codes "cum" ++ behind_slash unit)
    ++ last_cell (codes "name")

-- the line of a key
abbrev pub row_line : KeyRow → List ℕ
row_line row =
    cell (signed_decimal row.flat) ++ cell (signed_decimal row.cum)
    ++ last_cell (cell_text row.name)

-- the lines of keys
abbrev pub table_rows : List KeyRow → List ℕ
table_rows rows = flat_map row_line rows

-- the text of the table report of these figures, with this limit, where 0 is none, and with this unit of the values
abbrev pub table_layout : Figures → Presentation → ℕ → List ℕ → List ℕ
table_layout g presentation limit unit =
    exact_heading unit
    ++ table_rows (map (key_row g) (shown_keys limit (ordered_keys g presentation.sort)))

-- The text of the table report with this limit and this unit: the heading, and the rows in report order.
abbrev pub exact_table : Profile → Finders → Config → Option ℕ → ℕ → List ℕ → List ℕ
exact_table p f config column limit unit =
    table_layout (figures p f config column) config.presentation limit unit
