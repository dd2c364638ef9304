use Rattle.pp_alike.proofs.SavedFileLemmas.{saved_files_report_alike}
use Rattle.pp_alike.proofs.files.saved_files_report_alike.Goals as goal

pub returns : goal.returns
returns c = saved_files_report_alike
