use Rattle.pp_sums.proofs.Changing.{changes_account}
use Rattle.pp_sums.proofs.changes.changes_add_up.Goals as goal

pub returns : goal.returns
returns c = changes_account
