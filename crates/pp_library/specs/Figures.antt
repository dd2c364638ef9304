-- The figures of a report as values: what the table report prints.
use Rattle.std.specs.Prelude.{◌≡◌, ℕ, List, [], ◌++◌, map, Option, Some, option_map, Result, Ok, Err}
use Rattle.std.specs.List.{flat_map}
use Rattle.pp_desk.specs.Asking.{Asking}
use Rattle.pp_desk.specs.Script as scripts
use Rattle.pp_desk.specs.Script.{Give}
use Rattle.pp_model.specs.declared.config.Config.{Config}
use Rattle.pp_model.specs.declared.loaded.Loaded.{Loaded}
use Rattle.pp_model.specs.declared.profile.Profile.{Profile}
use Rattle.pp_model.specs.declared.report.BaseKind.{BaseKind}
use Rattle.pp_model.specs.declared.report.Report.TheVariants.{Table}
use Rattle.pp_model.specs.Finders.{Finders}
use Rattle.pp_pattern.specs.Report.{Finds}
use Rattle.pp_count.specs.Counted.{report_samples}
use Rattle.pp_count.specs.Counts.{total_of}
use Rattle.pp_graph.specs.Figures.{figures}
use Rattle.pp_graph.specs.KeyRows.{KeyRow, key_row}
use Rattle.pp_graph.specs.Trim.{first_report_keys, node_limit}
use Rattle.pp_export.specs.Table.{exact_heading, row_line}
use Rattle.pp_report.specs.declared.refusal.ReportRefusal.{ReportRefusal}
use Rattle.pp_report.specs.Heads.{kind_text, unit_text}
use Rattle.pp_report.specs.Patterns.{report_finders}
use Rattle.pp_report.specs.Prepared.{Showing, Settled, showing_for, prepare}
use Rattle.pp_report.specs.Tagged.{basis_of}
use Rattle.pp_library.specs.declared.edging.FigureEdge.{FigureEdge}
use Rattle.pp_library.specs.declared.tabling.Figure.{Figure}
use Rattle.pp_library.specs.declared.tabling.FigureTable.{FigureTable}
use Rattle.pp_library.specs.declared.report_error.ReportError.{ReportError}
use Rattle.pp_library.specs.Edges.{AreRowEdges}
use Rattle.pp_library.specs.Reports.{report_refusal, report_text}

-- the figure of a row
abbrev pub figure_of : KeyRow → Figure
figure_of row = record { flat = row.flat; cum = row.cum; name = row.name }

-- The figures with this total and these rows, under the column's type. Edges are told apart, since their order is free.
abbrev pub table_with : Profile → Option ℕ → ℕ → List Figure → FigureTable
table_with p column total rows = record {
  kind = kind_text p column;
  unit = unit_text p column;
  total = total;
  rows = rows;
  edges = [];
}

-- the figures but for their edges
abbrev pub without_edges : FigureTable → FigureTable
without_edges figures = record {
  kind = figures.kind;
  unit = figures.unit;
  total = figures.total;
  rows = figures.rows;
  edges = [];
}

-- The figures of the profile in this column, by what the patterns find: a row for each of the first keys that occur, in
-- report order.
abbrev pub figures_by : Profile → Finders → Config → Option ℕ → FigureTable
figures_by p f config column =
    table_with p column (total_of p f config column)
    (map (λ k. figure_of (key_row (figures p f config column) k))
    (first_report_keys p f config column (node_limit config.presentation.nodecount 0)))

-- the figures of the profile that a table is made of
abbrev pub figures_on : Finds → Loaded → Config → Option ℕ → FigureTable
figures_on finds l config column =
    figures_by l.profile (report_finders finds l Table config.filtering) config column

-- the figures of what was settled, in its column
abbrev pub figures_settled : Finds → Loaded → Config → Result Settled ReportRefusal → Result FigureTable ReportRefusal
figures_settled finds l config (Ok settled) =
    Ok (figures_on finds (basis_of Table l config.presentation) config settled.showing.column)
figures_settled finds l config (Err refusal) = Err refusal

-- Asks for the patterns of a table report, and gives its figures.
unfoldable pub table_figures : Finds → Loaded → Config → Asking ReportRefusal FigureTable
table_figures finds l config =
    scripts.◌>>=◌ (prepare finds l Table config) (λ answer. Give (figures_settled finds l config answer))

-- The edges are those between the rows of the profile in this column, by what the patterns find.
abbrev pub HasEdgesBy : Profile → Finders → Config → Option ℕ → List FigureEdge → Type 0
HasEdgesBy p f config column edges =
    AreRowEdges (report_samples p f config column)
    (first_report_keys p f config column (node_limit config.presentation.nodecount 0)) edges

-- They are those of the profile that a table is made of.
abbrev pub HasEdgesOn : Finds → Loaded → Config → Option ℕ → List FigureEdge → Type 0
HasEdgesOn finds l config column edges =
    HasEdgesBy l.profile (report_finders finds l Table config.filtering) config column edges

-- They are those of the loaded profile, in the column that its table shows.
abbrev pub HasEdges : Finds → Loaded → Config → List FigureEdge → Type 0
HasEdges finds l config edges =
    (showing : Showing) → showing_for Table
    (basis_of Table l config.presentation).profile config.presentation ≡ Ok showing
    → HasEdgesOn finds (basis_of Table l config.presentation) config showing.column edges

-- the figures or the refusal, without edges; nothing where memory was wanting
abbrev pub figures_outcome : Result FigureTable ReportError → Option (Result FigureTable ReportRefusal)
figures_outcome (Ok figures) = Some (Ok (without_edges figures))
figures_outcome (Err error) = option_map Err (report_refusal error)

-- the line of the table report with this figure
abbrev pub figure_line : Figure → List ℕ
figure_line figure = row_line (record { flat = figure.flat; cum = figure.cum; name = figure.name })

-- the text of the table report with these figures
abbrev pub figures_text : FigureTable → List ℕ
figures_text figures = exact_heading figures.unit ++ flat_map figure_line figures.rows

-- the text with these figures, or the refusal in their place
abbrev pub printed_figures : Result FigureTable ReportRefusal → Result (List ℕ) ReportRefusal
printed_figures (Ok figures) = Ok (figures_text figures)
printed_figures (Err refusal) = Err refusal

-- The table report asks the patterns that the figures ask, and prints these, a line for each, or is refused as they
-- are.
abbrev pub TablesPrintFigures : Type 0
TablesPrintFigures =
    (finds : Finds) (l : Loaded) (base : Option BaseKind) (config : Config)
    → report_text finds l base Table config
    ≡ scripts.◌>>=◌ (table_figures finds l config) (λ made. Give (printed_figures made))
