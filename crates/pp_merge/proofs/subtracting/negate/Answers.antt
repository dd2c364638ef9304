use Rattle.std.proofs.Common.{sym, subst}
use Rattle.pp_model.specs.Words.{NoRuleFails}
use Rattle.pp_merge.proofs.NegatedLemmas.{negated_valid}
use Rattle.pp_merge.proofs.subtracting.negate.Goals as goal

-- the negated base keeps the rules
pub claim-requires : goal.claim-requires
claim-requires c =
    subst NoRuleFails (sym c.in_ok-p.ensures) (negated_valid c.args.kind c.into_profile.result c.into_profile.ensures.valid)
