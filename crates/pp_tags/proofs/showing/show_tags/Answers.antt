use Rattle.std.proofs.Common.{◌≡◌, ap, subst, ◌∙◌}
use Rattle.std.specs.Prelude.{IfOk}
use Rattle.pp_model.specs.Words.{NoRuleFails}
use Rattle.pp_tags.specs.Verdicts.{shown_by}
use Rattle.pp_tags.proofs.LabelLemmas.{labels_have_texts, shown_alike}
use Rattle.pp_tags.proofs.showing.show_tags.Goals as goal

-- the labels that the verdicts show
pub returns : goal.returns
returns c f holds =
    subst (λ labels. IfOk c.shown_by.result (λ shown. shown ≡ labels))
    (ap (shown_by c.args.v.now) c.as_slice.ensures
    ∙ shown_alike c.args.l.now c.args.v.now f c.args.l.now.profile c.args.s.now.label (λ _. c.args.l.now.profile) holds
    (labels_have_texts c.args.l.now.profile c.args.s.now (subst NoRuleFails c.get-valid.ensures.same c.get-valid.ensures.valid) c.requires))
    c.shown_by.ensures
