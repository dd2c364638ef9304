use Rattle.std.proofs.Common.{◌≡◌, sym, ap, subst, refl, map, take, Some, ◌∙◌, length, arith}
use Rattle.std.specs.List.{filter_map}
use Rattle.std.proofs.lemmas.Grind.{common_steps}
use Rattle.pp_graph.proofs.Starting.{nodes_same, all_live, next_edge}
use Rattle.pp_graph.proofs.graph.Graph.make.Goals as goal

pub loop-edge-preserved : goal.loop-edge-preserved
loop-edge-preserved c = record {
  nodes = nodes_same c.args.sums.now c.loop-edge.graph c.add.new.self c.in_ok-add.ensures.nodes c.loop-edge.invariant.nodes;
  edges = next_edge c.as_slice-edge-items.result.now c.loop-edge.edge-index _ c.loop-edge.graph.edges c.add.new.self.edges c.loop-edge-test.true c.loop-edge.invariant.edges c.in_ok-add.ensures.edges;
}

pub returns : goal.returns
returns c = record {
  nodes = c.loop-edge.invariant.nodes;
  edges = grind (arith, common_steps);
  live = ap (filter_map (λ x. x)) (c.loop-edge.invariant.edges) ∙ all_live (take c.loop-edge.edge-index c.as_slice-edge-items.result.now) ∙ grind (arith, common_steps);
  linked = c.nodes-linked.ensures.linked;
}
