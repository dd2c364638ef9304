use Rattle.pp_laws.proofs.Shards.{merged_are_sums}
use Rattle.pp_laws.proofs.merged.merged_reports_are_sums.Goals as goal

pub returns : goal.returns
returns c = merged_are_sums
