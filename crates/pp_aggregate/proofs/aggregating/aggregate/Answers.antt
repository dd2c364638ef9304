use Rattle.std.proofs.Common.{sym, ap, ◌∙◌, subst}
use Rattle.pp_model.specs.Words.{NoRuleFails, IsCompact}
use Rattle.pp_aggregate.specs.Aggregated.{aggregated}
use Rattle.pp_aggregate.proofs.ValidLemmas.{aggregated_valid, aggregated_compact}
use Rattle.pp_aggregate.proofs.aggregating.aggregate.Goals as goal

-- the tables keep the rules, as they did
pub claim-requires : goal.claim-requires
claim-requires c =
    subst NoRuleFails (sym c.aggregate_tables.ensures) (aggregated_valid c.args.keep.now c.into_profile-p.result c.into_profile-p.ensures.valid)

-- ids and texts are as they were
pub returns-clause-compact : goal.returns-clause-compact
returns-clause-compact c compact =
    subst IsCompact (sym (c.claim.ensures ∙ c.aggregate_tables.ensures ∙ ap (aggregated c.args.keep.now) c.into_profile-p.ensures.same))
    (aggregated_compact c.args.keep.now c.args.p compact)
