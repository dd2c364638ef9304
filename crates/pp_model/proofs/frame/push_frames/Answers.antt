use Rattle.pp_model.proofs.FrameLemmas.{frames_more, stack_read, frames_of_profile, frames_written, one_le_read, within_read}
use Rattle.pp_model.proofs.frame.push_frames.Goals as goal

pub overflow_sub-id : goal.overflow_sub-id
overflow_sub-id c =
    one_le_read c.args.p.now _ _ _ c.as_slice-id-items.ensures c.requires.compact.locations c.requires.refers c.loop-place-test.true

pub push_rows-requires : goal.push_rows-requires
push_rows-requires c =
    within_read c.args.p.now _ _ _ c.as_slice-id-items.ensures c.requires.compact.locations c.requires.refers c.loop-place-test.true

pub loop-place-preserved : goal.loop-place-preserved
loop-place-preserved c = frames_more c.args.p.now _ _ _ _ _ c.loop-place-test.true c.loop-place.invariant c.in_ok-push_rows.ensures

pub returns-clause-texts : goal.returns-clause-texts
returns-clause-texts c =
    rw (stack_read c.args.p.now _ _ _ _ c.as_slice-id-items.ensures c.loop-place-test.false c.loop-place.invariant)
    (frames_written c.args.p.now 0 _ c.requires.compact.locations c.requires.refers)

pub returns-clause-of_profile : goal.returns-clause-of_profile
returns-clause-of_profile c =
    rw (stack_read c.args.p.now _ _ _ _ c.as_slice-id-items.ensures c.loop-place-test.false c.loop-place.invariant)
    (frames_of_profile c.args.p.now 0 _ c.requires.compact.locations c.requires.refers)
