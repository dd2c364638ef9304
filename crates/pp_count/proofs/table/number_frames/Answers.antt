use Rattle.pp_count.proofs.Numbering.{numbering_more}
use Rattle.pp_count.proofs.table.number_frames.Goals as goal

-- one more frame
pub loop-frame-preserved : goal.loop-frame-preserved
loop-frame-preserved c =
    rw c.in_ok-push.ensures.ok
    (numbering_more c.args.grouping.grain c.args.grouping.showcolumns c.args.l.now.profile c.args.names.now c.loop-frame.names c.key_number.new.names c.args.stack.now c.loop-frame.frame-index _ c.loop-frame.row c.in_ok-number.number c.key_of-key.result
    c.loop-frame.invariant c.loop-frame-test.true c.key_of-key.ensures.of_profile c.key_of-key.ensures.texts c.in_ok-number.ensures.key c.in_ok-number.ensures.seen)
