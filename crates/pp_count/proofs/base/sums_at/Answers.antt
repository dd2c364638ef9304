use Rattle.std.proofs.Common.{[], ◌∷◌, ◌++◌, ap, ◌∙◌}
use Rattle.pp_count.specs.Tally.{tally_at}
use Rattle.pp_count.proofs.Based.{listed_more}
use Rattle.pp_count.proofs.base.sums_at.Goals as goal

pub loop-number-preserved : goal.loop-number-preserved
loop-number-preserved c = (
  listed_more (λ n. (tally_at c.args.tallies.now n).flat) c.args.numbers.now c.loop-number.number-index c.loop-number.flat c.push_tally.new.flat c.loop-number-test.true c.loop-number.invariant.0
      (c.in_ok-push_tally.ensures.flat ∙ ap (λ t. c.loop-number.flat ++ t.flat ∷ []) c.tally_of.ensures),
  listed_more (λ n. (tally_at c.args.tallies.now n).cum) c.args.numbers.now c.loop-number.number-index c.loop-number.cum c.push_tally.new.cum c.loop-number-test.true c.loop-number.invariant.1
      (c.in_ok-push_tally.ensures.cum ∙ ap (λ t. c.loop-number.cum ++ t.cum ∷ []) c.tally_of.ensures),
)
