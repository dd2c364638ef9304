use Rattle.pp_steps.proofs.AnyGroups.{any_groups}
use Rattle.pp_steps.proofs.steps.any_groups_are_one_merge.Goals as goal

pub returns : goal.returns
returns c = any_groups
