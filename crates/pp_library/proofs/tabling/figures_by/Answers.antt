use Rattle.std.proofs.Common.{◌≢◌, ◌<◌, List, length, map, All, sym, ap, subst, ◌∙◌}
use Rattle.std.specs.List.{AllPairs}
use Rattle.std.proofs.lemmas.Result.{IfOk-weaker}
use Rattle.pp_model.specs.FrameTexts.{Written}
use Rattle.pp_count.specs.Counted.{report_samples}
use Rattle.pp_count.specs.Counts.{total_of}
use Rattle.pp_graph.specs.KeyRows.{row_at}
use Rattle.pp_graph.specs.Sampled.{seen_row}
use Rattle.pp_graph.specs.Trimmed.{written_order}
use Rattle.pp_graph.specs.Trim.{first_report_keys, node_limit}
use Rattle.pp_library.specs.Edges.{AreRowEdges}
use Rattle.pp_library.specs.Figures.{figure_of}
use Rattle.pp_library.proofs.FigureLemmas.{ranked_figures, figures_are}
use Rattle.pp_library.proofs.tabling.figures_by.Goals as goal

-- what was counted and ranked has rows
pub rows_of-requires-clause-keys : goal.rows_of-requires-clause-keys
rows_of-requires-clause-keys g c = c.args.survey.now.counts.of_profile

pub rows_of-requires-clause-fits : goal.rows_of-requires-clause-fits
rows_of-requires-clause-fits g c = c.args.survey.now.counts.fits

pub rows_of-requires-clause-below : goal.rows_of-requires-clause-below
rows_of-requires-clause-below g c =
    let s = c.args.survey.now in
    rw c.as_slice.ensures (c.in_ok-ranked.ensures s.v.now s.column s.counts).below

pub row_edges-requires-clause-below : goal.row_edges-requires-clause-below
row_edges-requires-clause-below g c = λ κs within.
    let s = c.args.survey.now in
    subst (All (λ n. n < length s.counted.now.sums.names)) (sym c.as_slice-2.ensures) (c.in_ok-ranked.ensures s.v.now s.column s.counts).below

pub row_edges-requires-clause-once : goal.row_edges-requires-clause-once
row_edges-requires-clause-once g c = λ κs within.
    let s = c.args.survey.now in
    subst (AllPairs (λ a b. a ≢ b)) (sym c.as_slice-2.ensures) (c.in_ok-ranked.ensures s.v.now s.column s.counts).once

-- the rows are those of the first keys
pub returns-clause-is : goal.returns-clause-is
returns-clause-is g c = λ f holds.
    let s = c.args.survey.now in
    let p = s.l.now.profile in
    let config = s.config.now in
    let ranked = c.in_ok-ranked.ensures s.v.now s.column s.counts in
    figures_are c.with_rows.result _ p s.column _ (total_of p f config s.column) _ _ c.get.ensures.same (s.counts.total_is f holds)
    (c.in_ok-rows.ensures
    ∙ ap (map (λ n. figure_of (row_at p s.counted.now.sums n))) c.as_slice.ensures
    ∙ ranked_figures s.l.now s.v.now config s.column c.limit_of-limit.result s.counted.now c.in_ok-ranked.ranked f s.counts ranked holds
    ∙ (λ i. map (λ k. figure_of (seen_row (report_samples p f config s.column) k)) (first_report_keys p f config s.column (c.limit_of-limit.ensures i))))
    c.with_rows.ensures.is

-- the edges are those between them
pub returns-clause-edges : goal.returns-clause-edges
returns-clause-edges g c = λ f holds.
    let s = c.args.survey.now in
    let p = s.l.now.profile in
    let config = s.config.now in
    let samples = report_samples p f config s.column in
    let ranked = c.in_ok-ranked.ensures s.v.now s.column s.counts in
    let keys = ap (written_order p s.counted.now.sums.names) c.as_slice-2.ensures ∙ ranked.keys f holds ∙ (λ i. first_report_keys p f config s.column (c.limit_of-limit.ensures i)) in
    IfOk-weaker c.with_rows.result _ _
    (λ figures e. subst (AreRowEdges samples (first_report_keys p f config s.column (node_limit config.presentation.nodecount 0))) (sym e)
    (subst (λ (ks : List Written). AreRowEdges samples ks c.in_ok-edges.edges) keys (c.in_ok-edges.ensures f holds)))
    c.with_rows.ensures.edges
