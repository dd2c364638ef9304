use Rattle.std.proofs.Common.{w64, to_z}
use Rattle.pp_graph.specs.Ranks.{sum_of_name}
use Rattle.pp_graph.proofs.Summing.{summing_none, summing_all, next_fits, next_sum}
use Rattle.pp_account.proofs.nodes.flat_sum.Goals as goal

pub loop-number-init : goal.loop-number-init
loop-number-init c = summing_none (sum_of_name c.args.flats.now) c.args.numbers.now

pub overflow_add-sum : goal.overflow_add-sum
overflow_add-sum c =
    next_fits (sum_of_name c.args.flats.now) c.args.numbers.now c.loop-number.number-index (to_z w64 c.loop-number.sum-bits) c.sum_at-sum.result 0
    c.sum_at-sum.ensures c.loop-number-test.true c.loop-number.invariant c.requires.small

pub loop-number-preserved : goal.loop-number-preserved
loop-number-preserved c =
    next_sum (sum_of_name c.args.flats.now) c.args.numbers.now c.loop-number.number-index (to_z w64 c.loop-number.sum-bits) c.sum_at-sum.result 0
    c.sum_at-sum.ensures c.loop-number-test.true c.loop-number.invariant c.requires.small

pub returns : goal.returns
returns c = summing_all (sum_of_name c.args.flats.now) c.args.numbers.now c.loop-number.number-index (to_z w64 c.loop-number.sum-bits) c.loop-number-test.false c.loop-number.invariant
