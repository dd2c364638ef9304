use Rattle.pp_steps.proofs.SteppedMerges.{steps_are_one}
use Rattle.pp_steps.proofs.steps.steps_are_one_merge.Goals as goal

pub returns : goal.returns
returns c = λ columns g groups mine. steps_are_one columns g groups mine.up mine
