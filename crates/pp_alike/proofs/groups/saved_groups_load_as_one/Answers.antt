use Rattle.pp_alike.proofs.SavedGroupLemmas.{saved_groups_load_as_one}
use Rattle.pp_alike.proofs.groups.saved_groups_load_as_one.Goals as goal

pub returns : goal.returns
returns c = saved_groups_load_as_one
