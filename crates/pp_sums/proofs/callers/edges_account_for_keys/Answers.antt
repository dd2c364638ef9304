use Rattle.pp_sums.proofs.Accounting.{edges_account}
use Rattle.pp_sums.proofs.callers.edges_account_for_keys.Goals as goal

pub returns : goal.returns
returns c = edges_account
