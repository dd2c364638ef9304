use Rattle.pp_saved.proofs.SavedAlike.{saved_columns, saved_figures}
use Rattle.pp_saved.proofs.kept.saved_figures.Goals as goal

pub returns-clause-columns : goal.returns-clause-columns
returns-clause-columns c = saved_columns

pub returns-clause-figures : goal.returns-clause-figures
returns-clause-figures c = saved_figures
