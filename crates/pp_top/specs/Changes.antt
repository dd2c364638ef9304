-- The text of the changes report: a line for each key that occurs, with the figures that the compare report has of it,
-- exact.
use Rattle.std.specs.Prelude.{ℕ, List, ◌++◌, codes, Option}
use Rattle.std.specs.Fmt.{signed_decimal}
use Rattle.std.specs.List.{flat_map}
use Rattle.pp_model.specs.declared.config.Config.{Config}
use Rattle.pp_model.specs.declared.profile.Profile.{Profile}
use Rattle.pp_model.specs.Finders.{Finders}
use Rattle.pp_graph.specs.Trim.{first_report_keys}
use Rattle.pp_cells.specs.Cells.{behind_slash, cell, cell_text, last_cell}
use Rattle.pp_top.specs.declared.difference.Difference.{Difference}
use Rattle.pp_top.specs.Compare.{ComparedRow, compared_row}

-- the line above the rows, whose values are in this unit
abbrev pub changes_heading : List ℕ → List ℕ
changes_heading unit =
    cell (codes "before" ++ behind_slash unit) ++ cell (codes "after" ++ behind_slash unit)
    ++ cell (codes "change" ++ behind_slash unit) ++ last_cell (codes "name")

-- the three figures of a row
abbrev pub exact_figures : Difference → List ℕ
exact_figures d = cell (signed_decimal d.before) ++ cell (signed_decimal d.after) ++ cell (signed_decimal d.change)

-- the line of a row
abbrev pub change_line : ComparedRow → List ℕ
change_line row = exact_figures row.figures ++ last_cell (cell_text row.name)

-- The text of the changes report with this limit, where 0 is none, and with this unit of the values.
abbrev pub changes_text : Profile → Finders → Config → Option ℕ → ℕ → List ℕ → List ℕ
changes_text p f config column limit unit =
    changes_heading unit
    ++ flat_map (λ k. change_line (compared_row p f config column k)) (first_report_keys p f config column limit)
