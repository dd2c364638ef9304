use Rattle.std.proofs.Common.{◌∙◌}
use Rattle.pp_library.specs.Places.{placed_edge}
use Rattle.pp_library.proofs.PlaceLemmas.{placed_also, placed_not}
use Rattle.pp_library.proofs.edging.placed_edges.Goals.{in-Some+in_ok-push-in-Some, in-None}
use Rattle.pp_library.proofs.edging.placed_edges.Goals as goal

-- the edge is added where both its names have a row
pub loop-edge-preserved : goal.loop-edge-preserved
loop-edge-preserved c = elim c.match-placed_edge.branch [
  | in-Some+in_ok-push-in-Some w ↦ w.placed-is ∙ w.in_ok-push-in-Some.ensures.ok
      ∙ placed_also (placed_edge c.args.places.now) c.args.edges.now c.loop-edge.edge-index _ c.placed_edge.result _ c.loop-edge.placed c.loop-edge-test.true c.placed_edge.ensures w.in-Some.is c.loop-edge.invariant
  | in-None w ↦ w.placed-is
      ∙ placed_not (placed_edge c.args.places.now) c.args.edges.now c.loop-edge.edge-index _ c.placed_edge.result c.loop-edge.placed c.loop-edge-test.true c.placed_edge.ensures w.in-None.is c.loop-edge.invariant
]
