use Rattle.std.proofs.Common.{◌≡◌, map, take, Some}
use Rattle.pp_graph.specs.Trimmed.{HasNodes}
use Rattle.pp_graph.proofs.graph.Graph.make.Given as goal

-- the edges so far are added
abbrev pub invariant-loop-edge : goal.invariant-loop-edge
invariant-loop-edge l = record { nodes : HasNodes l.sums l.graph; edges : l.graph.edges ≡ map Some (take l.edge-index l.edge-items) }
