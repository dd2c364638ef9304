use Rattle.pp_merge.proofs.SettledLemmas.{settled_contents}
use Rattle.pp_merge.proofs.laws.merged_is_settled.Goals as goal

pub returns : goal.returns
returns c = settled_contents
