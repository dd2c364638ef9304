use Rattle.pp_tables.proofs.Written.{written_again}
use Rattle.pp_tables.proofs.laws.written_is_read.Goals as goal

pub returns : goal.returns
returns c = written_again
