use Rattle.std.proofs.Common.{◌≡◌, ◌<◌, ℕ, List, Bool, length, map, All, Some, refl, sym, ap, subst, ◌∙◌}
use Rattle.std.specs.List.{filter}
use Rattle.pp_count.specs.declared.edge.Edge.{Edge}
use Rattle.pp_count.specs.Counted.{report_samples}
use Rattle.pp_count.specs.EdgeSums.{AreEdgesOf}
use Rattle.pp_graph.specs.Cuts.{kept_flags, is_heavy_edge, is_light_edge}
use Rattle.pp_graph.proofs.Flags.{length-flags}
use Rattle.pp_graph.proofs.Left.{trimmed_of}
use Rattle.pp_graph.proofs.Starting.{nodes_same}
use Rattle.pp_graph.proofs.trimming.trim.Goals as goal

pub kept-requires : goal.kept-requires
kept-requires g c =
    rw (c.len.ensures.len, c.as_slice.ensures) (c.in_ok-ranked.ensures c.args.survey.now.v.now c.args.survey.now.column c.args.survey.now.counts).below

pub recount-requires-after_bounds : goal.recount-requires-after_bounds
recount-requires-after_bounds g c κs within =
    ap length c.in_ok-keep.ensures ∙ length-flags c.len.result c.as_slice.result.now ∙ c.len.ensures.len

pub returns : goal.returns
returns g c =
    trimmed_of c.args.survey.now.l.now c.args.survey.now.v.now c.args.survey.now.config.now c.args.survey.now.column c.args.limit c.args.survey.now.counted.now c.args.survey.now.counts _
    (c.in_ok-ranked.ensures c.args.survey.now.v.now c.args.survey.now.column c.args.survey.now.counts) c.in_ok-edges.edges
    (λ f h. subst (λ (keep : List Bool). AreEdgesOf c.args.survey.now.l.now.profile (report_samples c.args.survey.now.l.now.profile f c.args.survey.now.config.now c.args.survey.now.column) c.args.survey.now.counted.now.sums.names keep c.in_ok-edges.edges)
    (c.in_ok-keep.ensures ∙ (λ i. kept_flags (c.len.ensures.len i) (c.as_slice.ensures i))) (c.in_ok-edges.ensures.edges f h))
    c.cut_light-dropped_edges.ensures.linked
    (nodes_same c.args.survey.now.counted.now.sums c.in_ok-graph.graph c.cut_light-dropped_edges.new.graph c.cut_light-dropped_edges.ensures.nodes c.in_ok-graph.ensures.nodes)
    (c.cut_light-dropped_edges.ensures.live ∙ ap (filter (is_heavy_edge c.args.survey.now.counted.now.total c.args.survey.now.config.now.presentation.edgefraction.billionths)) c.in_ok-graph.ensures.live)
    (c.cut_light-dropped_edges.ensures.cut ∙ ap (λ (es : List Edge). length (filter (is_light_edge c.args.survey.now.counted.now.total c.args.survey.now.config.now.presentation.edgefraction.billionths) es)) c.in_ok-graph.ensures.live)
