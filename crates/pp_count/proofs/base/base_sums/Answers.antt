use Rattle.std.proofs.Common.{◌≡◌, w64, length, sym, ap, ◌∙◌, subst}
use Rattle.std.specs.List.{filter}
use Rattle.std.proofs.lemmas.Int.{fits_signed_from_abs, to_z-of_z}
use Rattle.std.proofs.lemmas.Result.{IfOk-weaker}
use Rattle.pp_model.specs.Rules.{IsCompact}
use Rattle.pp_count.specs.declared.base.BaseSums.{BaseSums}
use Rattle.pp_count.specs.Base.{is_base_number}
use Rattle.pp_count.specs.Rising.{AreRisingBetween}
use Rattle.pp_count.specs.Tally.{tally_at}
use Rattle.pp_count.proofs.Based.{base_sums_are, base_fits}
use Rattle.pp_count.proofs.Kept.{values_fit}
use Rattle.pp_count.proofs.Rising.{rising-filter}
use Rattle.pp_count.proofs.base.base_sums.Goals as goal

pub chosen_tallies-requires-after_bounds : goal.chosen_tallies-requires-after_bounds
chosen_tallies-requires-after_bounds g c = λ _ _.
    subst (AreRisingBetween 0 (length c.args.survey.now.l.now.profile.sample))
    (sym (c.as_slice-chosen.ensures ∙ c.in_ok-list.ensures ∙ (λ i. filter (is_base_number (c.get-compact.ensures.same i)) (c.as_slice-kept.ensures i))))
    (rising-filter (is_base_number c.args.survey.now.l.now.profile) 0 (length c.args.survey.now.l.now.profile.sample) c.args.survey.now.counted.now.kept c.args.survey.now.counts.rising)

pub selected_sum-whole-requires-clause-fits : goal.selected_sum-whole-requires-clause-fits
selected_sum-whole-requires-clause-fits g c =
    values_fit c.args.survey.now.l.now.profile c.args.survey.now.column c.args.survey.now.config.now.presentation.divide_by c.args.survey.now.can.countable c.args.survey.now.can.column

pub selected_sum-whole-requires-clause-rising : goal.selected_sum-whole-requires-clause-rising
selected_sum-whole-requires-clause-rising g c =
    subst (AreRisingBetween 0 (length c.args.survey.now.l.now.profile.sample))
    (sym (c.as_slice-chosen.ensures ∙ c.in_ok-list.ensures ∙ (λ i. filter (is_base_number (c.get-compact.ensures.same i)) (c.as_slice-kept.ensures i))))
    (rising-filter (is_base_number c.args.survey.now.l.now.profile) 0 (length c.args.survey.now.l.now.profile.sample) c.args.survey.now.counted.now.kept c.args.survey.now.counts.rising)

pub returns-clause-sums : goal.returns-clause-sums
returns-clause-sums g c = λ f holds.
    IfOk-weaker c.sums_at-sums.result _ _ (λ sums is.
    base_sums_are c.args.survey.now.l.now c.args.survey.now.v.now c.args.survey.now.config.now c.args.survey.now.column (subst IsCompact c.get-compact.ensures.same c.get-compact.ensures.compact)
    c.args.survey.now.counted.now.table.names c.args.survey.now.counts.table.keys c.args.survey.now.counts.table.distinct c.as_slice-chosen.result.now (tally_at c.in_ok-tallies.tallies) c.in_ok-tallies.ensures
    c.args.survey.now.counted.now.sums c.args.survey.now.counted.now.numbers c.args.survey.now.counts.names c.args.survey.now.counts.numbered sums
    (ap (λ s. s.flat) is) (ap (λ s. s.cum) is)
    f c.args.survey.now.counted.now.kept holds (c.args.survey.now.counts.kept f holds)
    (c.as_slice-chosen.ensures ∙ c.in_ok-list.ensures ∙ (λ i. filter (is_base_number (c.get-compact.ensures.same i)) (c.as_slice-kept.ensures i)))
    (ap (λ s. s.whole) is ∙ to_z-of_z w64 c.selected_sum-whole.result (fits_signed_from_abs w64 c.selected_sum-whole.result c.selected_sum-whole.ensures.small) ∙ c.selected_sum-whole.ensures.value))
    (rw c.as_slice-numbers.ensures at c.sums_at-sums.ensures)

pub returns-clause-fits : goal.returns-clause-fits
returns-clause-fits g c =
    IfOk-weaker c.sums_at-sums.result _ _ (λ sums is.
    let whole : sums.whole ≡ c.selected_sum-whole.result =
    ap (λ (s : BaseSums). s.whole) is ∙ to_z-of_z w64 c.selected_sum-whole.result (fits_signed_from_abs w64 c.selected_sum-whole.result c.selected_sum-whole.ensures.small) in
    base_fits c.args.survey.now.l.now c.args.survey.now.v.now c.args.survey.now.config.now c.args.survey.now.column (subst IsCompact c.get-compact.ensures.same c.get-compact.ensures.compact)
    c.args.survey.now.counted.now.table.names c.args.survey.now.counts.table.keys c.args.survey.now.counts.table.distinct c.as_slice-chosen.result.now (tally_at c.in_ok-tallies.tallies) c.in_ok-tallies.ensures
    c.args.survey.now.counted.now.sums c.args.survey.now.counted.now.numbers c.args.survey.now.counts.names c.args.survey.now.counts.numbered sums
    (ap (λ s. s.flat) is) (ap (λ s. s.cum) is)
    (subst (AreRisingBetween 0 (length c.args.survey.now.l.now.profile.sample))
    (sym (c.as_slice-chosen.ensures ∙ c.in_ok-list.ensures ∙ (λ i. filter (is_base_number (c.get-compact.ensures.same i)) (c.as_slice-kept.ensures i))))
    (rising-filter (is_base_number c.args.survey.now.l.now.profile) 0 (length c.args.survey.now.l.now.profile.sample) c.args.survey.now.counted.now.kept c.args.survey.now.counts.rising)) (values_fit c.args.survey.now.l.now.profile c.args.survey.now.column c.args.survey.now.config.now.presentation.divide_by c.args.survey.now.can.countable c.args.survey.now.can.column)
    (rw whole c.selected_sum-whole.ensures.small))
    (rw c.as_slice-numbers.ensures at c.sums_at-sums.ensures)
