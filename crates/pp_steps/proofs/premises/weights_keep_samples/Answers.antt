use Rattle.pp_steps.proofs.Weights.{groups_keep}
use Rattle.pp_steps.proofs.premises.weights_keep_samples.Goals as goal

pub returns : goal.returns
returns c = groups_keep
