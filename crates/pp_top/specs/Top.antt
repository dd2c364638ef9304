-- The text of the top report: the lines of its head, and a row for each key that it shows.
use Rattle.std.specs.Prelude.{ℕ, ℤ, pos, List, ◌++◌, length, map, Option}
use Rattle.pp_model.specs.declared.config.Config.{Config}
use Rattle.pp_model.specs.declared.presentation.Presentation.{Presentation}
use Rattle.pp_model.specs.declared.profile.Profile.{Profile}
use Rattle.pp_model.specs.Finders.{Finders}
use Rattle.pp_units.specs.Head.{Facts, facts_text}
use Rattle.pp_units.specs.Rows.{columns_text, name_end, showing_line, dropped_line, limited_line, heading}
use Rattle.pp_units.specs.Rows as lines
use Rattle.pp_units.specs.Shown.{Shown}
use Rattle.pp_count.specs.declared.sums.Sums.{Sums}
use Rattle.pp_graph.specs.declared.ranking.Ranked.{Ranked}
use Rattle.pp_graph.specs.Figures.{Figures, figures}
use Rattle.pp_graph.specs.Trim.{heavy_keys, shown_keys, light_key_count}
use Rattle.pp_graph.specs.KeyRows.{KeyRow, running_text, key_row, row_at, flat_sum}

-- the line of a row, where the flats up to it have this sum
abbrev pub top_row : Shown → ℕ → ℤ → KeyRow → List ℕ
top_row unit total sum row = columns_text unit total row.flat sum row.cum ++ name_end row.name

-- the lines of rows, where the flats before them have this sum
abbrev pub top_rows : Shown → ℕ → ℤ → List KeyRow → List ℕ
top_rows unit total before rows =
    running_text (λ row. row.flat) (top_row unit total) before rows

-- what rows account for, how many keys are too light, and how many of the others are shown
abbrev pub top_summary : Facts → ℤ → ℕ → ℕ → ℕ → List ℕ
top_summary h sum dropped shown candidates =
    showing_line h.unit h.total sum ++ dropped_line lines.dropped_nodes dropped
    ++ limited_line shown candidates

-- what is written of a ranking; no public clause cites it
abbrev pub ranked_text : Profile → Sums → Ranked → Facts → List ℕ
ranked_text p sums t h =
    facts_text h ++ top_summary h t.shown_flat t.dropped_nodes (length t.order) t.candidates
    ++ heading ++ top_rows h.unit h.total (pos 0) (map (row_at p sums) t.order)

-- the text of the top report of these figures, with this limit, where 0 is none
abbrev pub top_layout : Figures → Presentation → ℕ → Facts → List ℕ
top_layout g presentation limit h =
    let candidates = heavy_keys g presentation in
    let shown = shown_keys limit candidates in
    facts_text h
    ++ top_summary h (flat_sum g shown) (light_key_count g presentation) (length shown)
    (length candidates)
    ++ heading ++ top_rows h.unit h.total (pos 0) (map (key_row g) shown)

-- The text of the top report with this limit: its head, the heading, and the rows.
abbrev pub top_text : Profile → Finders → Config → Option ℕ → ℕ → Facts → List ℕ
top_text p f config column limit h =
    top_layout (figures p f config column) config.presentation limit h
