-- The figures of a ranking.
use Rattle.std.proofs.Common.{◌≡◌, ℕ, List, [], ◌∷◌, ◌++◌, map, Option, None, option_map, inl, inr, refl, sym, ap, ◌∙◌, subst, ◌⊎◌}
use Rattle.std.specs.Prelude.{Result, Ok, Err, IfOk}
use Rattle.std.specs.Borrow.{GName}
use Rattle.pp_base.specs.Judges.{Answer}
use Rattle.std.specs.List.{flat_map}
use Rattle.pp_desk.specs.declared.stop.Stop.{Stop}
use Rattle.pp_desk.specs.Script as scripts
use Rattle.pp_desk.specs.Script.{Script, Give, Make}
use Rattle.pp_desk.specs.Went.{Went}
use Rattle.pp_model.specs.declared.config.Config.{Config}
use Rattle.pp_model.specs.declared.loaded.Loaded.{Loaded}
use Rattle.pp_model.specs.declared.profile.Profile.{Profile}
use Rattle.pp_model.specs.declared.report.BaseKind.{BaseKind}
use Rattle.pp_model.specs.declared.report.Report.TheVariants.{Table}
use Rattle.pp_model.specs.declared.verdicts.Verdicts.{Verdicts}
use Rattle.pp_model.specs.Finders.{Finders}
use Rattle.pp_model.specs.FrameTexts.{Written}
use Rattle.pp_count.specs.declared.counted.Counted.{Counted}
use Rattle.pp_count.specs.Counted.{IsCountedOf, report_samples}
use Rattle.pp_count.specs.Seeing.{HoldsFilters}
use Rattle.pp_count.specs.Sums.{Seen}
use Rattle.pp_graph.specs.declared.ranking.Ranked.{Ranked}
use Rattle.pp_graph.specs.KeyRows.{KeyRow, row_at}
use Rattle.pp_graph.specs.Sampled.{seen_row}
use Rattle.pp_graph.specs.Trim.{first_report_keys, node_limit}
use Rattle.pp_graph.specs.Trimmed.{IsWholeRanking}
use Rattle.pp_graph.proofs.KeyRowLemmas.{rows_are}
use Rattle.pp_export.specs.Table.{exact_heading, exact_table, row_line}
use Rattle.pp_pattern.specs.Report.{Finds}
use Rattle.pp_report.specs.declared.refusal.ReportRefusal.{ReportRefusal}
use Rattle.pp_report.specs.Heads.{unit_text}
use Rattle.pp_report.specs.Patterns.{report_finders}
use Rattle.pp_report.specs.Prepared.{Showing, Settled, showing_for, prepare}
use Rattle.pp_report.specs.Reports.{Reported, finish_on, report_script, report_settled, text_by}
use Rattle.pp_report.specs.Tagged.{basis_of}
use Rattle.pp_library.specs.declared.edging.FigureEdge.{FigureEdge}
use Rattle.pp_library.specs.declared.tabling.Figure.{Figure}
use Rattle.pp_library.specs.declared.tabling.FigureTable.{FigureTable}
use Rattle.pp_library.specs.declared.report_error.ReportError.{ReportError}
use Rattle.pp_desk.specs.Asked.{Asked, value_of, world_by}
use Rattle.pp_library.specs.Figures.{TablesPrintFigures, figure_of, figure_line, figures_by, figures_outcome, figures_settled, printed_figures, table_with, table_figures, figures_text, without_edges, HasEdgesOn, HasEdges}
use Rattle.pp_library.specs.Reports.{report_text}
use Rattle.pp_desk.proofs.AskedLemmas.{asked_by, asked_map, asked_ends}

module _ {A : Type 0} (row : A → KeyRow) where
  figures_map : (xs : List A) → map (λ x. figure_of (row x)) xs ≡ map figure_of (map row xs)
  figures_map [] = refl
  figures_map (x ∷ xs) = ap (λ rest. figure_of (row x) ∷ rest) (figures_map xs)

  lines_map : (xs : List A) → flat_map row_line (map row xs) ≡ flat_map figure_line (map (λ x. figure_of (row x)) xs)
  lines_map [] = refl
  lines_map (x ∷ xs) = ap (λ rest. row_line (row x) ++ rest) (lines_map xs)

-- a table's lines are those of its figures
lines_printed : (p : Profile) (f : Finders) (config : Config) (column : Option ℕ)
    → exact_table p f config column (node_limit config.presentation.nodecount 0) (unit_text p column) ≡ figures_text (figures_by p f config column)
lines_printed p f config column =
    ap (λ lines. exact_heading (unit_text p column) ++ lines)
    (lines_map (seen_row (report_samples p f config column)) (first_report_keys p f config column (node_limit config.presentation.nodecount 0)))

scripts_grouped : {A B C : Type 0} (s : Script A) (f : A → Script B) (g : B → Script C) → scripts.◌>>=◌ (scripts.◌>>=◌ s f) g ≡ scripts.◌>>=◌ s (λ x. scripts.◌>>=◌ (f x) g)
unfolding scripts.◌>>=◌
scripts_grouped (Give x) f g = refl
scripts_grouped (Make step s) f g = λ i. Make step (λ reply. scripts_grouped (s reply) f g i)

-- what is printed once all is settled
settled_printed : (finds : Finds) (l : Loaded) (base : Option BaseKind) (config : Config) (answer : Result Settled ReportRefusal)
    → scripts.◌>>=◌ (report_settled finds l base Table config answer) (λ (made : Reported). Give made.outcome)
    ≡ scripts.◌>>=◌ (Give (figures_settled finds l config answer)) (λ made. Give (printed_figures made))
unfolding report_settled finish_on text_by scripts.◌>>=◌
settled_printed finds l base config (Ok settled) =
    let over = basis_of Table l config.presentation in
    ap (λ (text : List ℕ). Give (Ok text)) (lines_printed over.profile (report_finders finds over Table config.filtering) config settled.showing.column)
settled_printed finds l base config (Err refusal) = refl

pub tables_print_figures : TablesPrintFigures
unfolding report_text report_script table_figures
tables_print_figures finds l base config =
    scripts_grouped (prepare finds l Table config) (report_settled finds l base Table config) (λ (made : Reported). Give made.outcome)
    ∙ (λ i. scripts.◌>>=◌ (prepare finds l Table config) (λ answer. settled_printed finds l base config answer i))
    ∙ sym (scripts_grouped (prepare finds l Table config) (λ answer. Give (figures_settled finds l config answer)) (λ made. Give (printed_figures made)))

-- The rows of a ranking are those of its keys.
pub ranked_figures : (l : Loaded) (v : Verdicts) (config : Config) (column : Option ℕ) (limit : ℕ) (c : Counted) (t : Ranked) (f : Finders)
    → IsCountedOf l v config column c → IsWholeRanking l v config column limit c t → HoldsFilters l v config.filtering f
    → map (λ n. figure_of (row_at l.profile c.sums n)) t.order ≡ map (λ k. figure_of (seen_row (report_samples l.profile f config column) k)) (first_report_keys l.profile f config column limit)
ranked_figures l v config column limit c t f counted ranked holds =
    let samples : List (Seen Written) = report_samples l.profile f config column in
    figures_map (row_at l.profile c.sums) t.order
    ∙ ap (map figure_of) (rows_are l.profile samples c.sums t.order (counted.sums_are f holds) ranked.below)
    ∙ ap (λ keys. map figure_of (map (seen_row samples) keys)) (ranked.keys f holds)
    ∙ sym (figures_map (seen_row samples) (first_report_keys l.profile f config column limit))

-- The table of what was counted is that of the definition.
pub figures_are : {E : Type 0} (r : Result FigureTable E) (p q : Profile) (column : Option ℕ) (n m : ℕ) (rows others : List Figure) → p ≡ q → n ≡ m → rows ≡ others
    → IfOk r (λ x. without_edges x ≡ table_with p column n rows) → IfOk r (λ x. without_edges x ≡ table_with q column m others)
figures_are r p q column n m rows others same total alike is =
    subst (λ (made : FigureTable). IfOk r (λ x. without_edges x ≡ made)) (λ i. table_with (same i) column (total i) (alike i)) is

-- The answer is what was settled, or memory was wanting.
pub went_figures : (finds : Finds) (l : Loaded) (config : Config) (name other : GName) (old new : Option (List Answer)) (prepared : Result (Result Settled ReportRefusal) Stop) (result : Result FigureTable ReportError)
    → Went (world_by name old) (world_by other new) (prepare finds l Table config) prepared
    → (figures_outcome result ≡ None) ⊎ (figures_outcome result ≡ option_map (figures_settled finds l config) (value_of prepared))
    → Asked old new (table_figures finds l config) (figures_outcome result)
unfolding table_figures
went_figures finds l config name other old new prepared result went is =
    let whole : Asked old new (scripts.◌>>=◌ (prepare finds l Table config) (λ answer. Give (figures_settled finds l config answer))) (option_map (figures_settled finds l config) (value_of prepared)) =
    asked_map (figures_settled finds l config) (prepare finds l Table config) _ _ _ (asked_by (prepare finds l Table config) name other old new prepared went) in
    by is whole
  where
    by : (figures_outcome result ≡ None) ⊎ (figures_outcome result ≡ option_map (figures_settled finds l config) (value_of prepared))
        → Asked old new (scripts.◌>>=◌ (prepare finds l Table config) (λ answer. Give (figures_settled finds l config answer))) (option_map (figures_settled finds l config) (value_of prepared))
        → Asked old new (scripts.◌>>=◌ (prepare finds l Table config) (λ answer. Give (figures_settled finds l config answer))) (figures_outcome result)
    by (inl none) whole = rw none (asked_ends _ _ _ _ whole)
    by (inr is) whole = rw is whole

-- The edges are those of the column that a table shows.
pub has_edges : (finds : Finds) (l : Loaded) (config : Config) (shows : Showing) (edges : List FigureEdge) → showing_for Table (basis_of Table l config.presentation).profile config.presentation ≡ Ok shows
    → HasEdgesOn finds (basis_of Table l config.presentation) config shows.column edges → HasEdges finds l config edges
has_edges finds l config shows edges is own showing also =
    subst (λ (column : Option ℕ). HasEdgesOn finds (basis_of Table l config.presentation) config column edges) (ap column_in (sym is ∙ also)) own
  where
    column_in : Result Showing ReportRefusal → Option ℕ
    column_in (Ok s) = s.column
    column_in (Err refusal) = shows.column
