use Rattle.pp_steps.proofs.MergesNamed.{names_all, samples_weigh}
use Rattle.pp_steps.proofs.premises.merges_are_ordinary.Goals as goal

pub returns-clause-samples : goal.returns-clause-samples
returns-clause-samples c = samples_weigh

pub returns-clause-mappings : goal.returns-clause-mappings
returns-clause-mappings c = names_all
