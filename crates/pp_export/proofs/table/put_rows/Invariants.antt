use Rattle.std.proofs.Common.{◌≡◌, ◌++◌, map, take}
use Rattle.pp_graph.specs.KeyRows.{row_at}
use Rattle.pp_export.specs.Table.{table_rows}
use Rattle.pp_export.proofs.table.put_rows.Given as goal

-- the lines so far
abbrev pub invariant-loop-number : goal.invariant-loop-number
invariant-loop-number l = l.out ≡ l.initial.out ++ table_rows (map (row_at l.l.profile l.sums) (take l.number-index l.order))
