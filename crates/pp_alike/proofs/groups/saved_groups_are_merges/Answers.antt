use Rattle.pp_alike.proofs.SavedGroupLemmas.{saved_groups_are_merges}
use Rattle.pp_alike.proofs.groups.saved_groups_are_merges.Goals as goal

pub returns : goal.returns
returns c = saved_groups_are_merges
