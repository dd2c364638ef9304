use Rattle.pp_steps.proofs.NamedMappings.{equal_are_first}
use Rattle.pp_steps.proofs.premises.equal_mappings_are_first.Goals as goal

pub returns : goal.returns
returns c = equal_are_first
