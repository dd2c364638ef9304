use Rattle.pp_merge.proofs.WrittenValid.{valid_written}
use Rattle.pp_merge.proofs.laws.written_is_valid.Goals as goal

pub returns : goal.returns
returns c = valid_written
