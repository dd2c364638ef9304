use Rattle.pp_load.proofs.DecodeLemmas.{written_loaded}
use Rattle.pp_load.proofs.laws.written_is_loaded.Goals as goal

pub returns : goal.returns
returns c = written_loaded
