use Rattle.pp_merge.proofs.WrittenAgain.{contents_again}
use Rattle.pp_merge.proofs.laws.written_is_again.Goals as goal

pub returns : goal.returns
returns c = contents_again
