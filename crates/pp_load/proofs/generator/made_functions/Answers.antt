use Rattle.std.proofs.Common.{◌∷◌, ◌++◌, [], ap, ◌∙◌}
use Rattle.pp_load.specs.Generator.{made_function}
use Rattle.pp_load.proofs.MadeLemmas.{one_more}
use Rattle.pp_load.proofs.generator.made_functions.Goals as goal

-- one more is made
pub loop-place-preserved : goal.loop-place-preserved
loop-place-preserved c = c.in_ok-push.ensures.ok ∙ ap (λ item. c.loop-place.functions ++ item ∷ []) c.made_function.ensures ∙ one_more made_function c.loop-place.functions c.loop-place.place c.loop-place.invariant
