use Rattle.std.proofs.Common.{◌-◌, ◌++◌, ap, ◌∙◌}
use Rattle.pp_load.specs.Generator.{ids_down}
use Rattle.pp_load.proofs.MadeLemmas.{ids_more}
use Rattle.pp_load.proofs.generator.ids_down.Goals as goal

-- one more is made
pub loop-id-preserved : goal.loop-id-preserved
loop-id-preserved c =
    ap (λ ids. ids ++ ids_down (c.loop-id.id - 1)) c.in_ok-push.ensures.ok ∙ ids_more c.loop-id.ids c.loop-id.id c.loop-id-test.true ∙ c.loop-id.invariant
