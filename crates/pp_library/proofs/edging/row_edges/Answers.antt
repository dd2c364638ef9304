use Rattle.std.proofs.Common.{ℕ, Bool, List, length, ap, sym, subst, ◌∙◌}
use Rattle.std.specs.List.{filter_map}
use Rattle.std.proofs.lemmas.Result.{IfOk-weaker}
use Rattle.pp_count.specs.Counted.{report_samples}
use Rattle.pp_count.specs.EdgeSums.{AreEdgesOf}
use Rattle.pp_graph.specs.Cuts.{kept_flags}
use Rattle.pp_graph.specs.Trimmed.{written_order}
use Rattle.pp_graph.proofs.Flags.{length-flags}
use Rattle.pp_library.specs.Edges.{AreRowEdges}
use Rattle.pp_library.specs.Places.{HasRowPlaces, placed_edge}
use Rattle.pp_library.proofs.PlaceLemmas.{are_row_edges}
use Rattle.pp_library.proofs.edging.row_edges.Goals as goal

-- each name is kept or not
pub recount-requires-after_bounds : goal.recount-requires-after_bounds
recount-requires-after_bounds g c κs within =
    ap length c.in_ok-keep.ensures ∙ length-flags c.len-names.result c.args.order.now ∙ c.len-names.ensures.len

-- the edges of the names are those between their rows
pub returns : goal.returns
returns g c = λ f h.
    let s = c.args.survey.now in
    let p = s.l.now.profile in
    let samples = report_samples p f s.config.now s.column in
    let names = s.counted.now.sums.names in
    IfOk-weaker c.placed_edges.result _ (AreRowEdges samples (written_order p names c.args.order.now))
    (λ placed e. subst (AreRowEdges samples (written_order p names c.args.order.now))
    (sym (e ∙ (λ i. filter_map (placed_edge (c.as_slice.ensures i)) (c.as_slice-2.ensures i))))
    (are_row_edges p samples names (s.counts.sums_are f h).once c.args.order.now
    c.requires.below c.requires.once c.in_ok-edges.edges
    (subst (λ (keep : List Bool). AreEdgesOf p samples names keep c.in_ok-edges.edges) (c.in_ok-keep.ensures ∙ (λ i. kept_flags (c.len-names.ensures.len i) c.args.order.now)) (c.in_ok-edges.ensures.edges f h))
    c.in_ok-places.places
    (subst (λ (n : ℕ). HasRowPlaces n c.args.order.now (length c.args.order.now) c.in_ok-places.places) c.len-names.ensures.len c.in_ok-places.ensures)))
    c.placed_edges.ensures
