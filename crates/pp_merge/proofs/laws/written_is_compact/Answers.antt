use Rattle.pp_merge.proofs.WrittenCompact.{compact_written}
use Rattle.pp_merge.proofs.laws.written_is_compact.Goals as goal

pub returns : goal.returns
returns c = compact_written
