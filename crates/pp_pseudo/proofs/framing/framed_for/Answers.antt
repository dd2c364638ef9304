use Rattle.std.proofs.Common.{ap, ◌∙◌}
use Rattle.std.proofs.lemmas.Result.{IfOk-weaker}
use Rattle.pp_pseudo.specs.KeyList.{key_list}
use Rattle.pp_pseudo.specs.Basis.{framed_by}
use Rattle.pp_pseudo.proofs.framing.framed_for.Goals as goal

-- the keys are those of the configuration
pub returns-clause-framed : goal.returns-clause-framed
returns-clause-framed c =
    let roots = c.in_ok-roots.ensures ∙ ap key_list c.as_slice.ensures in
    let leaves = c.in_ok-leaves.ensures ∙ ap key_list c.as_slice-2.ensures in
    IfOk-weaker c.framed_by.result _ _ (λ framed is. is ∙ (λ i. framed_by c.args.l.now (roots i) (leaves i))) c.framed_by.ensures.framed
