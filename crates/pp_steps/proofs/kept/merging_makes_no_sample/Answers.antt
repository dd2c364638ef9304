use Rattle.pp_steps.proofs.Vanishing.{none_new}
use Rattle.pp_steps.proofs.kept.merging_makes_no_sample.Goals as goal

pub returns : goal.returns
returns c = none_new
