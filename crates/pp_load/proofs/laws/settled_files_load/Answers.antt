use Rattle.pp_load.proofs.AloneLemmas.{settled_files_load}
use Rattle.pp_load.proofs.laws.settled_files_load.Goals as goal

pub returns : goal.returns
returns c = settled_files_load
