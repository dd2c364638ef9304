use Rattle.std.proofs.Common.{◌≡◌, ◌∙◌, ℕ, List, get_or, length, sym, ap, subst, arith}
use Rattle.std.specs.Ordering.{is_eq}
use Rattle.std.proofs.lemmas.List.{get_or_default}
use Rattle.pp_model.specs.declared.profile.Sample.{Sample}
use Rattle.pp_model.specs.Values.{no_sample}
use Rattle.pp_share.specs.declared.repeats.Repeat.{Repeat}
use Rattle.pp_share.specs.Renumbered.{new_ids}
use Rattle.pp_share.specs.Repeats.{AreEqual, IsPair}
use Rattle.pp_share.specs.StackOrder.{stack_cmp}
use Rattle.pp_share.proofs.StackOrderLemmas.{one_further, stack_ties}
use Rattle.pp_share.proofs.repeats.are_equal.Goals as goal

abbrev none : Repeat
none = record { first = 0; later = 0 }

-- one pair more
pub loop-repeat-preserved : goal.loop-repeat-preserved
loop-repeat-preserved c = λ k d below.
    let by = new_ids c.args.by.now in
    let samples : List Sample = c.args.samples.now in
    let repeats : List Repeat = c.args.repeats.now in
    let index : ℕ = c.loop-repeat.repeat-index in
    let r : Repeat = get_or repeats index none in
    let x : Sample = c.index-samples-repeat.result in
    let y : Sample = c.index-samples-repeat-in-loop-repeat.result in
    let pair : IsPair (length samples) r = c.requires index none c.loop-repeat-test.true in
    let first : get_or samples r.first no_sample ≡ x = get_or_default samples r.first no_sample x (omega (arith, pair.earlier, pair.within)) ∙ sym c.index-samples-repeat.is in
    let later : get_or samples r.later no_sample ≡ y = get_or_default samples r.later no_sample y pair.within ∙ sym c.index-samples-repeat-in-loop-repeat.is in
    let equal : AreEqual by samples r =
    stack_ties by (get_or samples r.first no_sample) (get_or samples r.later no_sample)
    ∙ (λ j. is_eq (stack_cmp by (first j) (later j))) ∙ ap is_eq (sym c.stack_order.ensures) ∙ sym c.is_eq.ensures ∙ c.if-not-is_eq.false in
    one_further (λ i. AreEqual by samples (get_or repeats i d)) index (λ i lower. c.loop-repeat.invariant i d lower)
    (subst (AreEqual by samples) (get_or_default repeats index none d c.loop-repeat-test.true) equal) k below

-- all pairs
pub returns : goal.returns
returns c = λ k d within. c.loop-repeat.invariant k d (omega (arith, within, c.loop-repeat-test.false))
