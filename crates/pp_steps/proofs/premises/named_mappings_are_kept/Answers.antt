use Rattle.pp_steps.proofs.KeptMappings.{groups_lose_none}
use Rattle.pp_steps.proofs.premises.named_mappings_are_kept.Goals as goal

pub returns : goal.returns
returns c = groups_lose_none
