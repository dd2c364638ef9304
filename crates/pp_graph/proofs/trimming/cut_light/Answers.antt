use Rattle.std.proofs.Common.{◌≡◌, ◌<◌, ℕ, map, length, Option, Some, None, refl, sym, ap, ◌∙◌, arith, pos}
use Rattle.std.specs.Option.{is_some}
use Rattle.std.proofs.lemmas.List.{length-map}
use Rattle.pp_count.specs.declared.edge.Edge.{Edge}
use Rattle.pp_graph.specs.Links.{EdgeLinks, live_edges}
use Rattle.pp_graph.proofs.Pruning.{pruned_none, edge_is, pruned_heavy, pruned_light, pruned_all, cut_bound}
use Rattle.pp_graph.proofs.trimming.cut_light.Goals.{then-is_light, else-is_light}
use Rattle.pp_graph.proofs.trimming.cut_light.Goals as goal

some_edge : Edge
some_edge = record { from = 0; to = 0; value = pos 0 }

-- there are as many live edges as numbers
all_there : (g : EdgeLinks) (count : ℕ) → count ≡ length g.edges → g.edges ≡ map Some (live_edges g) → count ≡ length (live_edges g)
all_there g count is whole = is ∙ ap length whole ∙ length-map (live_edges g) (λ (e : Edge). Some e)

pub loop-e-init : goal.loop-e-init
loop-e-init c = record { nodes = refl; pruned = pruned_none c.args.total c.args.least.billionths (live_edges c.args.graph.now) c.args.graph.now.edges c.requires.whole }

pub edge-requires : goal.edge-requires
edge-requires c =
    ap is_some (edge_is c.args.total c.args.least.billionths (live_edges c.args.graph.now) c.loop-e.e c.loop-e.graph.edges c.loop-e.cut some_edge
    (omega (arith, c.loop-e-test.true, all_there c.args.graph.now c.args.count c.requires.count c.requires.whole)) c.loop-e.invariant.pruned)

pub overflow_add-cut : goal.overflow_add-cut
overflow_add-cut c = record {
  fits = omega (
    arith,
    c.loop-e-test.true,
    c.ranges.count,
    cut_bound c.args.total c.args.least.billionths (live_edges c.args.graph.now) c.loop-e.e c.loop-e.graph.edges c.loop-e.cut c.loop-e.invariant.pruned,
  );
}

pub loop-e-preserved : goal.loop-e-preserved
loop-e-preserved c = elim c.if-is_light.branch [
  | then-is_light w ↦ rw (w.graph-is, w.cut-is, w.cut_edge.ensures) (record {
    nodes = c.loop-e.invariant.nodes;
    pruned = pruned_light c.args.total c.args.least.billionths (live_edges c.args.graph.now) c.loop-e.e c.loop-e.graph.edges c.loop-e.cut c.edge.result
        (omega (arith, c.loop-e-test.true, all_there c.args.graph.now c.args.count c.requires.count c.requires.whole))
        c.edge.ensures (sym c.is_light.ensures ∙ w.if-is_light.true) c.loop-e.invariant.pruned;
  })
  | else-is_light w ↦ rw (w.graph-is, w.cut-is) (record {
    nodes = c.loop-e.invariant.nodes;
    pruned = pruned_heavy c.args.total c.args.least.billionths (live_edges c.args.graph.now) c.loop-e.e c.loop-e.graph.edges c.loop-e.cut c.edge.result
        (omega (arith, c.loop-e-test.true, all_there c.args.graph.now c.args.count c.requires.count c.requires.whole))
        c.edge.ensures (sym c.is_light.ensures ∙ w.if-is_light.false) c.loop-e.invariant.pruned;
  })
]

pub returns : goal.returns
returns c =
    let all = pruned_all c.args.total c.args.least.billionths (live_edges c.args.graph.now) c.loop-e.e c.loop-e.graph.edges c.loop-e.cut
    (omega (arith, c.loop-e-test.false, all_there c.args.graph.now c.args.count c.requires.count c.requires.whole)) c.loop-e.invariant.pruned in
    record {
      nodes = c.loop-e.invariant.nodes;
      linked = c.nodes-linked.ensures.linked;
      live = all.0;
      cut = all.1;
    }
