use Rattle.std.proofs.Common.{◌≡◌, ◌^◌, ◌<◌, [], ◌∷◌, length, ◌∙◌, ap, sym, subst, arith}
use Rattle.std.specs.List.{AllByRecursion, sum_by}
use Rattle.std.proofs.lemmas.List.Sums.{sum_by-cons}
use Rattle.std.proofs.lemmas.Result.{IfOk-weaker}
use Rattle.pp_model.specs.declared.profile.Profile.{Profile}
use Rattle.pp_merge.proofs.NegatedLemmas.{negated_length, negated_columns, agrees_still}
use Rattle.pp_merge.proofs.subtracting.with_negated.Goals as goal

-- the base goes on to agree with the source
pub returns-in_err-base-clause-agree : goal.returns-in_err-base-clause-agree
returns-in_err-base-clause-agree c = agrees_still c.args.kind c.args.source c.args.base c.get-valid.result.now c.get-valid.ensures.same c.get-valid.ensures.valid c.requires.agree

pub returns-clause-agree : goal.returns-clause-agree
returns-clause-agree c = agrees_still c.args.kind c.args.source c.args.base c.get-valid.result.now c.get-valid.ensures.same c.get-valid.ensures.valid c.requires.agree

-- each has as many columns as before
pub returns-clause-columns : goal.returns-clause-columns
returns-clause-columns c =
    let own : length c.into_valid.result.sample_type ≡ length c.args.source.sample_type = ap (λ (p : Profile). length p.sample_type) c.into_valid.ensures.same in
    let other : length c.in_ok-base.base.sample_type ≡ length c.args.base.sample_type = ap (λ (p : Profile). length p.sample_type) c.in_ok-base.ensures ∙ negated_columns c.args.kind c.args.base in
    IfOk-weaker c.pair.result _ (AllByRecursion (λ (p : Profile). length p.sample_type < 2 ^ 32))
    (λ list is. subst (AllByRecursion (λ (p : Profile). length p.sample_type < 2 ^ 32)) (sym is)
    (omega (arith, own, c.requires.source.columns), (omega (arith, other, c.requires.base.columns), tt)))
    c.pair.ensures

-- both together have as many samples as before
pub returns-clause-samples : goal.returns-clause-samples
returns-clause-samples c =
    let own : length c.into_valid.result.sample ≡ length c.args.source.sample = ap (λ (p : Profile). length p.sample) c.into_valid.ensures.same in
    let other : length c.in_ok-base.base.sample ≡ length c.args.base.sample = ap (λ (p : Profile). length p.sample) c.in_ok-base.ensures ∙ negated_length c.args.kind c.args.base in
    IfOk-weaker c.pair.result _ (λ list. sum_by (λ (p : Profile). length p.sample) list < 2 ^ 32)
    (λ list is. subst (λ list. sum_by (λ (p : Profile). length p.sample) list < 2 ^ 32) (sym is)
    (omega (arith, own, other, c.requires.few, sum_by-cons (λ (p : Profile). length p.sample) c.into_valid.result (c.in_ok-base.base ∷ []), sum_by-cons (λ (p : Profile). length p.sample) c.in_ok-base.base [])))
    c.pair.ensures
