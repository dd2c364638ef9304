use Rattle.std.proofs.Common.{subst, sym}
use Rattle.pp_load.specs.Joining.{CanTakeOffOne}
use Rattle.pp_load.proofs.JoiningLemmas.{scaled_pair}
use Rattle.pp_load.proofs.combine.scale_if.Goals as goal

-- the base can be taken off what was scaled
pub returns-in-Ok-clause-pair : goal.returns-in-Ok-clause-pair
returns-in-Ok-clause-pair c =
    subst (λ source. CanTakeOffOne source c.args.base.now) (sym c.in-Ok.ensures.values) (scaled_pair c.args.source c.args.base.now c.requires)
