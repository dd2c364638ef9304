use Rattle.std.proofs.Common.{◌≡◌}
use Rattle.std.specs.List.{slice_get}
use Rattle.pp_graph.specs.Links.{out_at}
use Rattle.pp_rows.proofs.edges.edge_between.Given as goal

-- so many edges are passed, and the next one is at hand
abbrev pub invariant-loop-step : goal.invariant-loop-step
invariant-loop-step l = l.next ≡ slice_get (out_at l.graph l.from) l.step
