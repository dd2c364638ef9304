use Rattle.pp_merge.proofs.MergedLengths.{no_longer}
use Rattle.pp_merge.proofs.laws.tables_are_no_longer.Goals as goal

pub returns : goal.returns
returns c = no_longer
