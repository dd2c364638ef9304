use Rattle.std.proofs.Common.{ap, sym, ◌∙◌, ◌++◌, append_assoc}
use Rattle.std.specs.Prelude.{codes}
use Rattle.std.specs.List.{repeat}
use Rattle.pp_calltree.proofs.Summing.{repeat_more}
use Rattle.pp_calltree.proofs.writing.put_spaces.Goals as goal

pub loop-above-preserved : goal.loop-above-preserved
loop-above-preserved c =
    c.in_ok-extend.ensures.ok ∙ ap (λ o. o ++ codes "  ") c.loop-above.invariant
    ∙ append_assoc c.args.out.now (repeat c.loop-above._above (codes "  ")) (codes "  ")
    ∙ ap (λ r. c.args.out.now ++ r) (sym (repeat_more c.loop-above._above (codes "  ")))
