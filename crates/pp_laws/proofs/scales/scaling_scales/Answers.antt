use Rattle.pp_laws.proofs.Multiplying.{figures_scale, whole_values_scale}
use Rattle.pp_laws.proofs.scales.scaling_scales.Goals as goal

pub returns-clause-figures : goal.returns-clause-figures
returns-clause-figures c = figures_scale

pub returns-clause-whole : goal.returns-clause-whole
returns-clause-whole c = whole_values_scale
