use Rattle.pp_steps.proofs.AnyGroups.{any_merge}
use Rattle.pp_steps.proofs.premises.any_groups_merge_in_steps.Goals as goal

pub returns : goal.returns
returns c = any_merge
