use Rattle.std.proofs.Common.{◌≡◌, ◌-◌, length, map, take}
use Rattle.std.specs.Prelude.{slice_get}
use Rattle.pp_graph.specs.Links.{out_at}
use Rattle.pp_tree.specs.Ends.{callee_end, edges_at, neighbour_of}
use Rattle.pp_tree.proofs.ends.outgoing.Given as goal

-- as many of the edges are passed as ends are found, and the next one is at hand
abbrev pub invariant-loop-next : goal.invariant-loop-next
invariant-loop-next l = record {
  at : l.next ≡ slice_get (out_at l.graph l.node) (length l.nears.items);
  so_far : map neighbour_of l.nears.items ≡ map (callee_end l.p l.sums.names) (edges_at l.graph (take (length l.nears.items) (out_at l.graph l.node)));
}

-- the edges that are left
abbrev pub decreases-loop-next : goal.decreases-loop-next
decreases-loop-next l = length (out_at l.graph l.node) - length l.nears.items
