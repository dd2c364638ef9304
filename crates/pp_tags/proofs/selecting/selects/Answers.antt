use Rattle.std.proofs.Common.{refl, sym, subst, ◌∙◌}
use Rattle.pp_model.specs.Words.{NoRuleFails}
use Rattle.pp_tags.proofs.FilterLemmas.{nameless, named, some_read}
use Rattle.pp_tags.proofs.LabelLemmas.{labels_have_texts}
use Rattle.pp_tags.proofs.selecting.selects.Goals as goal

-- a filter without a name
pub returns-then-len-eq0 : goal.returns-then-len-eq0
returns-then-len-eq0 c finders are =
    nameless c.args.l.now.profile c.args.tag.now c.args.f.now finders c.args.parts.now c.args.s.now c.finds_each.result
    c.as_slice-then-len-eq0.result.now c.as_slice-then-len-eq0-2.result.now c.as_slice-labels.result.now
    c.in_default.is (sym c.len.ensures ∙ c.if-len-eq0.true) are c.requires.tags c.requires.sample
    c.as_slice-then-len-eq0.ensures c.as_slice-then-len-eq0-2.ensures c.as_slice-labels.ensures c.finds_each.ensures

-- a filter with a name
pub returns : goal.returns
returns c finders are =
    c.some_found.ensures
    ∙ some_read c.args.l.now.profile _ c.args.f.now.name _ c.args.parts.now _ c.args.s.now.label _ c.get-2.ensures.same c.as_slice-2.ensures
    c.as_slice-3.ensures c.as_slice-labels.ensures
    ∙ named c.args.l.now.profile c.args.tag.now c.args.f.now finders c.args.parts.now c.args.s.now c.args.f.now.name
    c.in_default.is refl (λ empty. c.if-len-eq0.false (c.len.ensures ∙ empty)) are
    (labels_have_texts c.args.l.now.profile c.args.s.now (subst NoRuleFails c.get-2.ensures.same c.get-2.ensures.valid) c.requires.sample)
