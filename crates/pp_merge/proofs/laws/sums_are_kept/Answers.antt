use Rattle.pp_merge.proofs.MergedTotals.{values_kept}
use Rattle.pp_merge.proofs.laws.sums_are_kept.Goals as goal

pub returns : goal.returns
returns c = values_kept
