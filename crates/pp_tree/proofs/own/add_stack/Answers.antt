use Rattle.std.proofs.Common.{arith}
use Rattle.pp_tree.proofs.Marking.{added_more}
use Rattle.pp_tree.proofs.own.add_stack.Goals as goal

pub loop-place-preserved : goal.loop-place-preserved
loop-place-preserved c = record {
  of_profile = λ all. c.in_ok-add_frame.ensures.of_profile (c.loop-place.invariant.of_profile all);
  found = λ find verdicts.
      added_more c.args.asked.now.l.now.profile c.args.asked.now.config.now.grouping find c.args.stack.now c.args.keys.now.keys c.loop-place.keys.keys c.add_frame.new.keys.keys c.loop-place.place
      (omega (arith, c.loop-place-test.true, c.len-place-end.ensures)) (c.in_ok-add_frame.ensures.found find verdicts) (c.loop-place.invariant.found find verdicts);
}
