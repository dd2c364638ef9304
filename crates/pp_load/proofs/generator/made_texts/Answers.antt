use Rattle.std.proofs.Common.{◌∷◌, ◌++◌, [], ap, ◌∙◌}
use Rattle.pp_load.specs.Generator.{generator_texts, made_name}
use Rattle.pp_load.proofs.MadeLemmas.{one_behind}
use Rattle.pp_load.proofs.generator.made_texts.Goals as goal

-- one more is made
pub loop-number-preserved : goal.loop-number-preserved
loop-number-preserved c =
    c.in_ok-push.ensures.ok ∙ ap (λ item. c.loop-number.texts ++ item ∷ []) c.in_ok-from_slice.ensures ∙ one_behind made_name generator_texts c.loop-number.texts c.loop-number.number c.loop-number.invariant
