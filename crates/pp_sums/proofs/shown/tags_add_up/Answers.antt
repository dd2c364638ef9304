use Rattle.pp_sums.proofs.Showing.{tags_add_up}
use Rattle.pp_sums.proofs.shown.tags_add_up.Goals as goal

pub returns : goal.returns
returns c = tags_add_up
