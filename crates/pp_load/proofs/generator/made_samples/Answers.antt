use Rattle.std.proofs.Common.{◌∷◌, ◌++◌, [], ap, ◌∙◌}
use Rattle.pp_load.specs.Generator.{made_sample}
use Rattle.pp_load.proofs.MadeLemmas.{one_more}
use Rattle.pp_load.proofs.generator.made_samples.Goals as goal

-- one more is made
pub loop-number-preserved : goal.loop-number-preserved
loop-number-preserved c = c.in_ok-push.ensures.ok ∙ ap (λ item. c.loop-number.list ++ item ∷ []) c.in_ok-made_sample.ensures ∙ one_more made_sample c.loop-number.list c.loop-number.number c.loop-number.invariant
