use Rattle.pp_engine.proofs.Telling.{tells_report}
use Rattle.pp_engine.proofs.reporting.reports_are_told.Goals as goal

pub returns : goal.returns
returns c = tells_report
