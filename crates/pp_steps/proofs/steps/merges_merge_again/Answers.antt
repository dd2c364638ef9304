use Rattle.pp_steps.proofs.MergesOrdinary.{merges_again}
use Rattle.pp_steps.proofs.steps.merges_merge_again.Goals as goal

pub returns : goal.returns
returns c = merges_again
