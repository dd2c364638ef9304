use Rattle.pp_steps.proofs.NamedMappings.{kept_are_first}
use Rattle.pp_steps.proofs.premises.kept_mappings_are_first.Goals as goal

pub returns : goal.returns
returns c = kept_are_first
