use Rattle.pp_count.proofs.Based.{filter_more}
use Rattle.pp_account.specs.Nodes.{is_where}
use Rattle.pp_account.proofs.nodes.numbers_where.Goals as goal

pub loop-number-preserved : goal.loop-number-preserved
loop-number-preserved c =
    filter_more (is_where c.args.sums.now c.args.total c.args.least.billionths c.args.wanted) c.args.order.now c.loop-number.numbers c.push_where.new.numbers c.loop-number.number-index
    c.loop-number-test.true c.loop-number.invariant c.in_ok-push_where.ensures
