use Rattle.std.proofs.Common.{◌∷◌, ◌++◌, [], ap, ◌∙◌}
use Rattle.pp_load.specs.Generator.{made_location}
use Rattle.pp_load.proofs.MadeLemmas.{one_more}
use Rattle.pp_load.proofs.generator.made_locations.Goals as goal

-- one more is made
pub loop-place-preserved : goal.loop-place-preserved
loop-place-preserved c = c.in_ok-push.ensures.ok ∙ ap (λ item. c.loop-place.locations ++ item ∷ []) c.in_ok-made_location.ensures ∙ one_more made_location c.loop-place.locations c.loop-place.place c.loop-place.invariant
