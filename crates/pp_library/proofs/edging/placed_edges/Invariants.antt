use Rattle.std.proofs.Common.{◌≡◌, take}
use Rattle.std.specs.List.{filter_map}
use Rattle.pp_library.specs.Places.{placed_edge}
use Rattle.pp_library.proofs.edging.placed_edges.Given as goal

-- the edges so far
abbrev pub invariant-loop-edge : goal.invariant-loop-edge
invariant-loop-edge l = l.placed ≡ filter_map (placed_edge l.places) (take l.edge-index l.edges)
