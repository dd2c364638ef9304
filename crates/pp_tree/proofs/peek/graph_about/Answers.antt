use Rattle.std.proofs.Common.{◌≡◌, replicate, true, ap, ◌∙◌}
use Rattle.pp_graph.specs.Links.{EdgeLinks, live_edges}
use Rattle.pp_tree.specs.Ends.{ShowsPairs}
use Rattle.pp_tree.specs.Whole.{all_pairs, pairs_about}
use Rattle.pp_graph.proofs.Whole.{ok_as}
use Rattle.pp_tree.proofs.Peeking.{about_shows}
use Rattle.pp_tree.proofs.peek.graph_about.Goals as goal

pub returns-clause-shows : goal.returns-clause-shows
returns-clause-shows g c = λ f own holds marks.
    ok_as c.make.result (λ (links : EdgeLinks). live_edges links ≡ c.in_ok-edges.edges)
    (λ (links : EdgeLinks). ShowsPairs c.args.survey.now.l.now.profile c.args.survey.now.counted.now.sums.names links (pairs_about own (all_pairs c.args.survey.now.l.now.profile f c.args.survey.now.config.now c.args.survey.now.column)))
    (λ links live.
    about_shows c.args.survey.now.l.now c.args.survey.now.v.now c.args.survey.now.config.now c.args.survey.now.column c.args.survey.now.counted.now f holds c.args.survey.now.counts own links c.as_slice.result.now c.args.marked.now c.in_ok-edges.edges
    (c.as_slice.ensures ∙ c.in_ok-keep.ensures ∙ ap (λ n. replicate n true) c.len.ensures.len) marks live (c.in_ok-edges.ensures.edges f holds))
    c.make.ensures.live
