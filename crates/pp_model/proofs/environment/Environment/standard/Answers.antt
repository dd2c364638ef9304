use Rattle.std.proofs.Common.{refl}
use Rattle.pp_model.proofs.ConfigLemmas.{same_environment}
use Rattle.pp_model.proofs.environment.Environment.standard.Goals as goal

-- each variable is the default
pub returns : goal.returns
returns c =
    same_environment _ _ record { source_path = c.new.ensures; trim_path = c.new-2.ensures; workers = refl }
