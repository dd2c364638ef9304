use Rattle.std.proofs.Common.{ℕ, List, subst}
use Rattle.pp_count.specs.Sums.{Seen, weighed}
use Rattle.pp_count.specs.Tally.{tally_at, IsTallyOf}
use Rattle.pp_count.proofs.Based.{chosen_fits, chosen_few, plain_all}
use Rattle.pp_count.proofs.base.chosen_tallies.Goals as goal

pub count_all-requires-clause-sound : goal.count_all-requires-clause-sound
count_all-requires-clause-sound g c = λ _ _.
    record { filters = c.args.survey.now.counts.filters; verdicts = c.args.survey.now.can.verdicts; table = c.args.survey.now.counts.table; few_kept = tt; chosen = c.requires }

pub count_all-requires-clause-countable : goal.count_all-requires-clause-countable
count_all-requires-clause-countable g c = λ _ _. record {
  fits = chosen_fits c.args.survey.now.l.now.profile c.args.survey.now.column c.args.survey.now.config.now.presentation.divide_by c.args.chosen.now c.args.survey.now.can.countable c.args.survey.now.can.column c.requires;
  few = chosen_few c.args.survey.now.l.now.profile c.args.chosen.now c.args.survey.now.can.countable c.requires;
}

pub returns : goal.returns
returns g c =
    let counted = c.in_ok-sofar.ensures.counted in
    record {
      seen = counted.seen;
      below = counted.are.below;
      within = counted.are.within;
      are = counted.are.are;
      tallies = λ k. subst (λ (r : List (Seen ℕ)). IsTallyOf (weighed r) k (tally_at c.in_ok-sofar.sofar.tallies k)) (plain_all counted.seen) (counted.tallies k);
    }
