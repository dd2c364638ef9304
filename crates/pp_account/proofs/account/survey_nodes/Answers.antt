use Rattle.std.proofs.Common.{ℕ, ◌<◌, ◌^◌, nat_abs, pos, length, All, List, sym, ap, subst, ◌∙◌}
use Rattle.std.specs.List.{sum_by}
use Rattle.pp_graph.specs.Ranks.{sum_of_name}
use Rattle.pp_account.proofs.Noding.{nodes_are, nodes_ok}
use Rattle.pp_account.proofs.account.survey_nodes.Goals as goal

pub node_portions-requires-clause-below : goal.node_portions-requires-clause-below
node_portions-requires-clause-below c =
    subst (All (λ n. n < length c.args.survey.now.counted.now.sums.names)) (sym c.as_slice.ensures)
    (c.in_ok-ranked.ensures c.args.survey.now.v.now c.args.survey.now.column c.args.survey.now.counts).below

pub node_portions-requires-clause-small : goal.node_portions-requires-clause-small
node_portions-requires-clause-small c =
    subst (λ (ns : List ℕ). sum_by (λ n. nat_abs (sum_of_name c.args.survey.now.counted.now.sums.flat n)) ns < 2 ^ 63) (sym c.as_slice.ensures)
    (c.in_ok-ranked.ensures c.args.survey.now.v.now c.args.survey.now.column c.args.survey.now.counts).small

pub returns : goal.returns
returns c = λ f holds.
    let w = c.args.survey.now in
    nodes_ok c.node_portions.result _ _
    (nodes_are w.l.now w.v.now w.config.now w.column f w.counted.now w.counts holds c.args.limit c.in_ok-ranked.ranked (c.in_ok-ranked.ensures w.v.now w.column w.counts))
    (rw c.as_slice.ensures at c.node_portions.ensures)
