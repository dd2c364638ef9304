use Rattle.pp_count.proofs.Kept.{values_fit}
use Rattle.pp_account.proofs.samples.portions_of.Goals as goal

-- the values of the samples can be added up
pub add_samples-requires-clause-countable : goal.add_samples-requires-clause-countable
add_samples-requires-clause-countable c = record {
  fits = values_fit c.args.survey.now.l.now.profile c.args.survey.now.column c.args.survey.now.config.now.presentation.divide_by c.args.survey.now.can.countable c.args.survey.now.can.column;
  few = c.args.survey.now.can.countable.samples;
}
