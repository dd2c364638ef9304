use Rattle.std.proofs.Common.{sym, ap, subst, ◌∙◌}
use Rattle.std.proofs.lemmas.Result.{on_err_weaker}
use Rattle.pp_build.specs.Adding.{with_new_text}
use Rattle.pp_build.specs.Growing.{HasMoreNames}
use Rattle.pp_build.proofs.FrameLemmas.{texts_more}
use Rattle.pp_build.proofs.builder.Builder.column.Goals as goal

-- both texts were added
pub returns-clause-err : goal.returns-clause-err
returns-clause-err c =
    let kind = c.args.kind.now in
    let unit = c.args.unit.now in
    let texts = c.in_ok-unit.ensures.new ∙ ap (λ p. with_new_text p unit) c.in_ok-kind.ensures.new in
    on_err_weaker c.sample_type.result
    (λ same. subst (HasMoreNames c.args.self.now) (sym (same ∙ texts)) (texts_more c.args.self.now kind unit))
    c.sample_type.ensures.err
