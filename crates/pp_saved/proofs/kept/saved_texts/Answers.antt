use Rattle.pp_saved.proofs.SavedAlike.{saved_texts}
use Rattle.pp_saved.proofs.kept.saved_texts.Goals as goal

pub returns : goal.returns
returns c = saved_texts
