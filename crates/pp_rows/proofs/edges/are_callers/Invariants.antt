use Rattle.std.proofs.Common.{◌≡◌}
use Rattle.std.specs.List.{slice_get}
use Rattle.pp_graph.specs.Links.{in_at}
use Rattle.pp_rows.proofs.edges.are_callers.Given as goal

-- `place` edges are passed, and the next one is at hand
abbrev pub invariant-loop-place : goal.invariant-loop-place
invariant-loop-place l = l.next ≡ slice_get (in_at l.graph l.node) l.place
