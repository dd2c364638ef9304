use Rattle.std.proofs.Common.{length, sym, ap, ◌∙◌, subst}
use Rattle.pp_count.specs.Rising.{AreRisingBetween}
use Rattle.pp_count.specs.Counts.{samples_at}
use Rattle.pp_count.proofs.Based.{chosen_few, chosen_fits, kept_seen}
use Rattle.pp_count.proofs.Rising.{rising_below, samples_length}
use Rattle.pp_calltree.proofs.building.scope_of.Goals as goal

-- the numbers are those of the samples that the filters leave
pub returns-clause-kept : goal.returns-clause-kept
returns-clause-kept c =
    let survey = c.args.survey.now in
    let p = survey.l.now.profile in
    let kept = survey.counted.now.kept in
    let is = c.as_slice.ensures in
    let rising = subst (AreRisingBetween 0 (length p.sample)) (sym is) survey.counts.rising in
    record {
      sound = record { filters = c.filters.ensures; verdicts = survey.can.verdicts; table = c.table.ensures; few_kept = tt; chosen = rising };
      countable = record {
        fits = chosen_fits p survey.column survey.config.now.presentation.divide_by c.as_slice.result.now survey.can.countable survey.can.column rising;
        few = chosen_few p c.as_slice.result.now survey.can.countable rising;
      };
      all = λ f holds. kept_seen p f survey.config.now survey.column c.as_slice.result.now (is ∙ survey.counts.kept f holds);
    }

pub returns-clause-count : goal.returns-clause-count
returns-clause-count c =
    let survey = c.args.survey.now in
    let p = survey.l.now.profile in
    ap (λ ns. length (samples_at p ns)) c.as_slice.ensures
    ∙ samples_length p survey.counted.now.kept (rising_below 0 (length p.sample) survey.counted.now.kept survey.counts.rising)
