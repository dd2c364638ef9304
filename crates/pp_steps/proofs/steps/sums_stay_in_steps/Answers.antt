use Rattle.pp_steps.proofs.SteppedSamples.{sums_in_steps}
use Rattle.pp_steps.proofs.steps.sums_stay_in_steps.Goals as goal

pub returns : goal.returns
returns c = sums_in_steps
