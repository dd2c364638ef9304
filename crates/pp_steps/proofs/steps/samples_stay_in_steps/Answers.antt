use Rattle.pp_steps.proofs.SteppedMerges.{samples_alike}
use Rattle.pp_steps.proofs.steps.samples_stay_in_steps.Goals as goal

pub returns : goal.returns
returns c = samples_alike
