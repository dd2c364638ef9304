use Rattle.pp_laws.proofs.Within.{figures_within, values_within}
use Rattle.pp_laws.proofs.bounds.figures_are_within.Goals as goal

pub returns-clause-figures : goal.returns-clause-figures
returns-clause-figures c = figures_within

pub returns-clause-values : goal.returns-clause-values
returns-clause-values c = values_within
