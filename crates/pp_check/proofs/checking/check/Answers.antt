use Rattle.pp_check.proofs.Keeps.{keeps_rules}
use Rattle.pp_check.proofs.checking.check.Goals as goal

-- a profile without a fault may be claimed valid
pub claim-requires : goal.claim-requires
claim-requires c = keeps_rules _ c.in_ok-try_rules.ensures
