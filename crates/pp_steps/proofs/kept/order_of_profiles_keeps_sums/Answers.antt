use Rattle.pp_steps.proofs.Exchanged.{sums_exchanged}
use Rattle.pp_steps.proofs.kept.order_of_profiles_keeps_sums.Goals as goal

pub returns : goal.returns
returns c = sums_exchanged
