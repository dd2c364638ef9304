use Rattle.pp_merge.proofs.MergedTotals.{absolutes_within}
use Rattle.pp_merge.proofs.laws.absolute_sums_are_within.Goals as goal

pub returns : goal.returns
returns c = absolutes_within
