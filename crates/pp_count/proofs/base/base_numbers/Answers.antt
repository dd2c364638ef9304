use Rattle.pp_count.specs.Base.{is_base_number}
use Rattle.pp_count.proofs.Based.{filter_more}
use Rattle.pp_count.proofs.base.base_numbers.Goals as goal

pub loop-number-preserved : goal.loop-number-preserved
loop-number-preserved c =
    filter_more (is_base_number c.args.p.now) c.args.numbers.now c.loop-number.chosen c.push_base.new.chosen c.loop-number.number-index c.loop-number-test.true
    c.loop-number.invariant c.in_ok-push_base.ensures
