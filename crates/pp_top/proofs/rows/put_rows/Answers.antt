use Rattle.std.proofs.Common.{◌≡◌, ℕ, ℤ, List, ◌+ℤ◌, pos, ap, ◌∙◌, w64, to_z, of_z, get_or}
use Rattle.pp_units.specs.Words.{shown}
use Rattle.pp_graph.specs.KeyRows.{KeyRow, row_at}
use Rattle.pp_top.specs.Top.{top_row}
use Rattle.pp_graph.proofs.Running.{next_fits, next_sum, summing_more, putting_more}
use Rattle.pp_top.proofs.rows.put_rows.Goals as goal

pub overflow_add-sum : goal.overflow_add-sum
overflow_add-sum c =
    rw c.as_slice.ensures
    (next_fits (λ n. get_or c.args.table.now.sums.now.flat n (pos 0)) c.args.order.now c.loop-number.number-index (to_z w64 c.loop-number.sum-bits) 0 c.loop-number-test.true
    c.loop-number.invariant.summing c.requires.small)

pub loop-number-preserved : goal.loop-number-preserved
loop-number-preserved c =
    let flats : List ℤ = c.args.table.now.sums.now.flat in
    let order : List ℕ = c.args.order.now in
    let i : ℕ = c.loop-number.number-index in
    let sum : ℤ = to_z w64 c.loop-number.sum-bits in
    let next : ℤ = to_z w64 (of_z w64 (sum +ℤ to_z w64 (of_z w64 (get_or c.as_slice.result.now (get_or order i 0) (pos 0))))) in
    let is : next ≡ sum +ℤ get_or flats (get_or order i 0) (pos 0) =
    ap (λ fs. to_z w64 (of_z w64 (sum +ℤ to_z w64 (of_z w64 (get_or fs (get_or order i 0) (pos 0)))))) c.as_slice.ensures
    ∙ next_sum (λ n. get_or flats n (pos 0)) order i sum 0 c.loop-number-test.true c.loop-number.invariant.summing c.requires.small in
    record {
      summing = rw is (summing_more (λ n. get_or flats n (pos 0)) order i sum 0 c.loop-number-test.true c.loop-number.invariant.summing);
      putting = putting_more (λ (row : KeyRow). row.flat) (top_row (shown c.args.table.now.head.now.unit) c.args.table.now.head.now.total) (row_at c.args.table.now.l.now.profile c.args.table.now.sums.now)
          order c.args.out.now i sum next c.loop-number.out c.put_row.new.out 0 c.loop-number-test.true is c.loop-number.invariant.putting c.in_ok-put_row.ensures;
    }
