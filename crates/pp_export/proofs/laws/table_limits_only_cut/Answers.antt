use Rattle.pp_export.proofs.Rows.{limits_cut}
use Rattle.pp_export.proofs.laws.table_limits_only_cut.Goals as goal

pub returns : goal.returns
returns c = limits_cut
