use Rattle.pp_saved.proofs.SavedReports.{saved_reports}
use Rattle.pp_saved.proofs.reports.saved_reports.Goals as goal

pub returns : goal.returns
returns c = saved_reports
