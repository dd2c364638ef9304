use Rattle.std.proofs.Common.{◌<◌, All}
use Rattle.pp_count.specs.declared.edge.Edge.{Edge}
use Rattle.pp_rows.proofs.edges.edges_of.Given as goal

-- the edges so far are between names
abbrev pub invariant-loop-from : goal.invariant-loop-from
invariant-loop-from l = All (λ (e : Edge). (e.from < l.names) × (e.to < l.names)) l.edges
