use Rattle.pp_saved.proofs.SavedBytes.{saved_bytes}
use Rattle.pp_saved.proofs.reports.saved_bytes.Goals as goal

pub returns : goal.returns
returns c = saved_bytes
