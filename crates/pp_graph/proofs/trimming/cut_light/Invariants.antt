use Rattle.std.proofs.Common.{◌≡◌}
use Rattle.pp_graph.specs.Links.{live_edges}
use Rattle.pp_graph.proofs.Pruning.{Pruned}
use Rattle.pp_graph.proofs.trimming.cut_light.Given as goal

-- the edges so far are looked at
abbrev pub invariant-loop-e : goal.invariant-loop-e
invariant-loop-e l = record {
  nodes : l.graph.nodes ≡ l.fn.graph.nodes;
  pruned : Pruned l.total l.least.billionths (live_edges l.fn.graph) l.e l.graph.edges l.cut;
}
