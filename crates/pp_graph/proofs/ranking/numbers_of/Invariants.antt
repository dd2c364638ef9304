use Rattle.std.proofs.Common.{◌≡◌, map, take}
use Rattle.pp_graph.specs.declared.heavy.RankedRow.{RankedRow}
use Rattle.pp_graph.proofs.ranking.numbers_of.Given as goal

abbrev pub invariant-loop-row : goal.invariant-loop-row
invariant-loop-row l = l.order ≡ map (λ (row : RankedRow). row.number) (take l.row-index l.rows)
