use Rattle.std.proofs.Common.{ℕ, List, length, map, ap, sym, ◌∙◌, subst}
use Rattle.std.proofs.lemmas.Result.{IfOk-weaker}
use Rattle.pp_count.specs.Sums.{weighed}
use Rattle.pp_count.specs.Counts.{samples_at}
use Rattle.pp_count.specs.Edges.{paired}
use Rattle.pp_count.specs.Rising.{AreRisingBetween}
use Rattle.pp_count.specs.Seeing.{seen_samples}
use Rattle.pp_count.specs.Tally.{tally_at}
use Rattle.pp_count.proofs.Based.{chosen_fits, chosen_few, kept_seen}
use Rattle.pp_count.proofs.Finals.{listed_as}
use Rattle.pp_count.proofs.recounting.pair_sums.Goals as goal

pub count_all-requires-clause-sound : goal.count_all-requires-clause-sound
count_all-requires-clause-sound g c = λ _ _. record {
  filters = c.args.survey.now.counts.filters;
  verdicts = c.args.survey.now.can.verdicts;
  table = c.args.survey.now.counts.table;
  few_kept = c.requires;
  chosen = subst (AreRisingBetween 0 (length c.args.survey.now.l.now.profile.sample)) (sym c.as_slice-kept.ensures) c.args.survey.now.counts.rising;
}

pub count_all-requires-clause-countable : goal.count_all-requires-clause-countable
count_all-requires-clause-countable g c = λ _ _.
    let rising : AreRisingBetween 0 (length c.args.survey.now.l.now.profile.sample) c.as_slice-kept.result.now =
    subst (AreRisingBetween 0 (length c.args.survey.now.l.now.profile.sample)) (sym c.as_slice-kept.ensures) c.args.survey.now.counts.rising in
    record {
      fits = chosen_fits c.args.survey.now.l.now.profile c.args.survey.now.column c.args.survey.now.config.now.presentation.divide_by c.as_slice-kept.result.now c.args.survey.now.can.countable c.args.survey.now.can.column rising;
      few = chosen_few c.args.survey.now.l.now.profile c.as_slice-kept.result.now c.args.survey.now.can.countable rising;
    }

pub returns : goal.returns
returns g c =
    let counted = c.in_ok-sofar.ensures.counted in
    IfOk-weaker c.entries.result _ _ (λ sums is. record {
      seen = counted.seen;
      below = counted.are.below;
      are = λ f holds.
          counted.are.are f holds
          ∙ ap (λ (ns : List ℕ). seen_samples c.args.survey.now.l.now.profile f c.args.survey.now.config.now c.args.survey.now.column (samples_at c.args.survey.now.l.now.profile ns)) c.as_slice-kept.ensures
          ∙ kept_seen c.args.survey.now.l.now.profile f c.args.survey.now.config.now c.args.survey.now.column c.args.survey.now.counted.now.kept (c.args.survey.now.counts.kept f holds);
      listed = λ k. is k ∙ listed_as (weighed (map (paired c.args.over.now) counted.seen)) k (tally_at c.in_ok-sofar.sofar.tallies k) (counted.tallies k);
    }) c.entries.ensures
