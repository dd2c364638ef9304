use Rattle.pp_count.proofs.Slotted.{rows_more}
use Rattle.pp_count.proofs.tallies.push_slotted.Goals as goal

pub loop-place-preserved : goal.loop-place-preserved
loop-place-preserved c =
    rows_more c.args.tallies.now.listed.items c.args.tallies.now.slots.place.items c.args.tallies.now.slots.rows.items c.loop-place.place _ c.loop-place.sums c.push_row.new.sums
    (rw c.deref-row-items.ensures.value at c.loop-place-test.true) c.loop-place.invariant
    (rw c.deref-row-items.ensures.value at c.in_ok-push_row.ensures)
