use Rattle.pp_laws.proofs.Within.{shared_keys}
use Rattle.pp_laws.proofs.bounds.shared_keys_are_whole.Goals as goal

pub returns : goal.returns
returns c = shared_keys
