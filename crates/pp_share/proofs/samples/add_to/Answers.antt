use Rattle.std.proofs.Common.{arith}
use Rattle.pp_share.proofs.SumLemmas.{added_is}
use Rattle.pp_share.proofs.samples.add_to.Goals as goal

pub returns : goal.returns
returns c =
    let kept = c.loop-column.invariant in
    added_is c.args.sums.now c.args.row.now c.loop-column.sums kept.wide c.requires.wide
    (λ k within. kept.done k (omega arith))
