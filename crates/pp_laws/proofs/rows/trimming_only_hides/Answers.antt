use Rattle.pp_laws.proofs.Hiding.{trimming_hides}
use Rattle.pp_laws.proofs.rows.trimming_only_hides.Goals as goal

pub returns : goal.returns
returns c = trimming_hides
