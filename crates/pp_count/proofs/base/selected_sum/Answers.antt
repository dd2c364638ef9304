use Rattle.std.proofs.Common.{rules, w64, to_z, of_z, length, ◌∙◌, arith}
use Rattle.std.proofs.lemmas.Int.{to_z-of_z}
use mir.Val.{SFits}
use Rattle.pp_count.proofs.Based.{sum_more, sum_room, sum_small}
use Rattle.pp_count.proofs.Rising.{rising_below}
use Rattle.pp_count.proofs.base.selected_sum.Goals as goal

pub value_of-value-requires : goal.value_of-value-requires
value_of-value-requires c = rising_below 0 (length c.args.l.now.profile.sample) c.args.numbers.now c.requires.rising c.loop-number.number-index 0 c.loop-number-test.true

pub sum_of-sum-requires : goal.sum_of-sum-requires
sum_of-sum-requires c =
    let fits : SFits w64 c.value_of-value.result = search rules in
    let there = rising_below 0 (length c.args.l.now.profile.sample) c.args.numbers.now c.requires.rising c.loop-number.number-index 0 c.loop-number-test.true in
    sum_room c.args.l.now.profile c.args.column c.args.presentation.now.divide_by c.args.numbers.now c.loop-number.number-index (to_z w64 c.loop-number.sum-bits) (to_z w64 (of_z w64 c.value_of-value.result))
    c.loop-number-test.true there c.loop-number.invariant (to_z-of_z w64 c.value_of-value.result fits ∙ c.value_of-value.ensures) c.requires.rising c.requires.fits

pub loop-number-preserved : goal.loop-number-preserved
loop-number-preserved c =
    let fits : SFits w64 c.value_of-value.result = search rules in
    let fits_sum : SFits w64 c.sum_of-sum.result = search rules in
    let there = rising_below 0 (length c.args.l.now.profile.sample) c.args.numbers.now c.requires.rising c.loop-number.number-index 0 c.loop-number-test.true in
    sum_more c.args.l.now.profile c.args.column c.args.presentation.now.divide_by c.args.numbers.now c.loop-number.number-index (to_z w64 c.loop-number.sum-bits) (to_z w64 (of_z w64 c.value_of-value.result))
    c.loop-number-test.true there c.loop-number.invariant (to_z-of_z w64 c.value_of-value.result fits ∙ c.value_of-value.ensures)
    (to_z w64 (of_z w64 c.sum_of-sum.result)) (to_z-of_z w64 c.sum_of-sum.result fits_sum ∙ c.sum_of-sum.ensures)

pub returns-clause-small : goal.returns-clause-small
returns-clause-small c =
    sum_small c.args.l.now.profile c.args.column c.args.presentation.now.divide_by c.args.numbers.now c.loop-number.number-index (to_z w64 c.loop-number.sum-bits)
    (omega (arith, c.loop-number-test.false)) c.loop-number.invariant c.requires.rising c.requires.fits
