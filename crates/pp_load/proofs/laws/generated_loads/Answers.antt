use Rattle.pp_load.proofs.GeneratedLemmas.{made_loads, made_is_small}
use Rattle.pp_load.proofs.laws.generated_loads.Goals as goal

pub returns-clause-loads : goal.returns-clause-loads
returns-clause-loads c = made_loads

pub returns-clause-small : goal.returns-clause-small
returns-clause-small c = made_is_small
