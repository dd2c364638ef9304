use Rattle.std.proofs.Common.{pos, slice_index_or}
use Rattle.pp_units.specs.Words.{shown}
use Rattle.pp_graph.specs.KeyRows.{row_at}
use Rattle.pp_top.specs.Top.{top_row}
use Rattle.pp_graph.proofs.Running.{Summing, Putting}
use Rattle.pp_top.proofs.rows.put_rows.Given as goal

-- the rows so far have their lines, and the sum leaves room for the flats that are left
abbrev pub invariant-loop-number : goal.invariant-loop-number
invariant-loop-number l = record {
  summing : Summing (λ n. slice_index_or l.table.sums.now.flat n (pos 0)) l.order l.number-index l.sum;
  putting : Putting (λ row. row.flat) (top_row (shown l.table.head.now.unit) l.table.head.now.total) (row_at l.table.l.now.profile l.table.sums.now) l.order l.initial.out l.number-index l.sum l.out;
}
