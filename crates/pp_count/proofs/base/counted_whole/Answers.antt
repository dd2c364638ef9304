use Rattle.std.proofs.Common.{w64, length, sym, ap, ◌∙◌, subst}
use Rattle.std.proofs.lemmas.Int.{fits_signed_from_abs, to_z-of_z}
use Rattle.pp_count.specs.Base.{selected_all}
use Rattle.pp_count.specs.Counts.{samples_at}
use Rattle.pp_count.specs.Rising.{AreRisingBetween}
use Rattle.pp_count.proofs.Kept.{kept_samples, values_fit}
use Rattle.pp_count.proofs.base.counted_whole.Goals as goal

pub selected_sum-requires-clause-fits : goal.selected_sum-requires-clause-fits
selected_sum-requires-clause-fits c =
    values_fit c.args.survey.now.l.now.profile c.args.survey.now.column c.args.survey.now.config.now.presentation.divide_by c.args.survey.now.can.countable c.args.survey.now.can.column

pub selected_sum-requires-clause-rising : goal.selected_sum-requires-clause-rising
selected_sum-requires-clause-rising c =
    subst (AreRisingBetween 0 (length c.args.survey.now.l.now.profile.sample)) (sym c.as_slice-kept.ensures) c.args.survey.now.counts.rising

pub returns : goal.returns
returns c = λ f holds.
    to_z-of_z w64 c.selected_sum.result (fits_signed_from_abs w64 c.selected_sum.result c.selected_sum.ensures.small) ∙ c.selected_sum.ensures.value
    ∙ ap (selected_all c.args.survey.now.column c.args.survey.now.config.now.presentation.divide_by) (ap (samples_at c.args.survey.now.l.now.profile) c.as_slice-kept.ensures
    ∙ kept_samples c.args.survey.now.l.now.profile f c.args.survey.now.config.now.filtering c.args.survey.now.counted.now.kept (c.args.survey.now.counts.kept f holds))
