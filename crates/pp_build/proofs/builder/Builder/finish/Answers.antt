use Rattle.std.proofs.Common.{sym, subst}
use Rattle.pp_model.specs.Words.{NoRuleFails}
use Rattle.pp_build.proofs.BuiltLemmas.{built_valid}
use Rattle.pp_build.proofs.builder.Builder.finish.Goals as goal

pub claim-requires : goal.claim-requires
claim-requires c = built_valid _ c.self.invariant.built

-- no table rule fails in what was built
pub returns-clause-valid : goal.returns-clause-valid
returns-clause-valid c = subst NoRuleFails (sym c.claim.ensures) (built_valid _ c.self.invariant.built)
