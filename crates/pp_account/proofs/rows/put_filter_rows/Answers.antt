use Rattle.std.proofs.Common.{length, ◌<◌}
use Rattle.pp_units.specs.Head.{facts}
use Rattle.pp_account.specs.Account.{dropping}
use Rattle.pp_account.specs.Lines.{filter_line}
use Rattle.pp_account.proofs.Putting.{putting_more}
use Rattle.pp_account.proofs.rows.put_filter_rows.Goals as goal

pub loop-slot-preserved : goal.loop-slot-preserved
loop-slot-preserved c = λ f holds.
    putting_more (filter_line f c.args.survey.now.config.now.filtering c.args.portions.now (facts c.args.head.now)) dropping c.args.out.now c.loop-slot.slot-index c.loop-slot.out c.put_filter_row.new.out _
    (rw c.as_slice-slot-items.ensures at c.loop-slot-test.true) (c.loop-slot.invariant f holds) (rw c.as_slice-slot-items.ensures at (c.in_ok-put_filter_row.ensures f holds))
