use Rattle.std.proofs.Common.{sym, subst}
use Rattle.pp_model.specs.Words.{IsCompact}
use Rattle.pp_edit.proofs.copying.copy_compact.Goals as goal

-- what holds of the profile holds of its copy
pub claim-requires : goal.claim-requires
claim-requires c = subst IsCompact (sym c.in_ok-copy.ensures) c.valid.ensures.compact
