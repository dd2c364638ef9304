use Rattle.std.proofs.Common.{◌≡◌}
use Rattle.pp_graph.specs.Slots.{bare_spots}
use Rattle.pp_graph.proofs.graph.bare_spots.Given as goal

-- the names so far have their nodes
abbrev pub invariant-loop-name : goal.invariant-loop-name
invariant-loop-name l = l.spots.items ≡ bare_spots l.sums l.name
