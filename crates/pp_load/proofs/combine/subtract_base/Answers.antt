use Rattle.std.proofs.Common.{◌∷◌, [], subst}
use Rattle.pp_model.specs.Rules.{NoRuleFails}
use Rattle.pp_merge.specs.Scale.{negated}
use Rattle.pp_load.proofs.JoiningLemmas.{pair_agrees, pair_joins, merge_gives, merge_one, merge_halts}
use Rattle.pp_load.proofs.combine.subtract_base.Goals as goal

-- the two agree
pub subtract_on-requires-clause-agree : goal.subtract_on-requires-clause-agree
subtract_on-requires-clause-agree g c = λ _ _. pair_agrees c.args.source c.args.base c.requires

-- the source and the negated base were merged
pub returns-in-Ok-clause-is : goal.returns-in-Ok-clause-is
returns-in-Ok-clause-is g c =
    merge_gives (c.args.source ∷ negated c.args.kind c.args.base ∷ []) c.in-Ok.merged
    (pair_joins c.args.kind c.args.source c.args.base (subst NoRuleFails c.get-source.ensures.same c.get-source.ensures.valid) (subst NoRuleFails c.get-base.ensures.same c.get-base.ensures.valid) c.requires)
    c.in-Ok.ensures.merges

pub returns-in-Ok-clause-ready : goal.returns-in-Ok-clause-ready
returns-in-Ok-clause-ready g c =
    (merge_one (c.args.source ∷ negated c.args.kind c.args.base ∷ []) c.in-Ok.merged
    (pair_joins c.args.kind c.args.source c.args.base (subst NoRuleFails c.get-source.ensures.same c.get-source.ensures.valid) (subst NoRuleFails c.get-base.ensures.same c.get-base.ensures.valid) c.requires)
    c.in-Ok.ensures.merges).ready

-- they were not
pub returns-in-Err-clause-is : goal.returns-in-Err-clause-is
returns-in-Err-clause-is g c =
    merge_halts (c.args.source ∷ negated c.args.kind c.args.base ∷ []) c.in-Err.refusal c.halt_of.result
    (pair_joins c.args.kind c.args.source c.args.base (subst NoRuleFails c.get-source.ensures.same c.get-source.ensures.valid) (subst NoRuleFails c.get-base.ensures.same c.get-base.ensures.valid) c.requires)
    c.in-Err.ensures.merges c.halt_of.ensures
