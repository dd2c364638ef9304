use Rattle.pp_steps.proofs.Vanishing.{all_stay}
use Rattle.pp_steps.proofs.kept.merging_drops_no_sample.Goals as goal

pub returns : goal.returns
returns c = all_stay
