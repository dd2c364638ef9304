use Rattle.pp_source.proofs.Numbering.{numbers_more}
use Rattle.pp_source.proofs.routine.numbers_of.Goals as goal

pub loop-line-preserved : goal.loop-line-preserved
loop-line-preserved c = (
  numbers_more c.args.lines.now c.loop-line.line-index _ c.loop-line.numbers.items _ c.loop-line-test.true c.loop-line.invariant.0 c.in_ok-push_number.ensures.numbers,
  c.in_ok-push_number.ensures.small,
)
