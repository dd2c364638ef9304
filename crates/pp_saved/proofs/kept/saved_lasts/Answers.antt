use Rattle.pp_saved.proofs.SavedAlike.{saved_lasts}
use Rattle.pp_saved.proofs.SavedSizes.{saved_sizes}
use Rattle.pp_saved.proofs.SavedWhole.{saved_whole}
use Rattle.pp_saved.proofs.kept.saved_lasts.Goals as goal

pub returns-clause-lasts : goal.returns-clause-lasts
returns-clause-lasts c = saved_lasts

pub returns-clause-sizes : goal.returns-clause-sizes
returns-clause-sizes c = saved_sizes

pub returns-clause-whole : goal.returns-clause-whole
returns-clause-whole c = saved_whole
