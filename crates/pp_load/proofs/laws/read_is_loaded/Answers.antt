use Rattle.pp_load.proofs.DecodeLemmas.{message_apart, message_loaded}
use Rattle.pp_load.proofs.laws.read_is_loaded.Goals as goal

pub returns-clause-apart : goal.returns-clause-apart
returns-clause-apart c = message_apart

pub returns-clause-loaded : goal.returns-clause-loaded
returns-clause-loaded c = message_loaded
