use Rattle.pp_steps.proofs.Admitted.{groups_can, merges_can}
use Rattle.pp_steps.proofs.steps.steps_are_not_refused.Goals as goal

pub returns-clause-groups : goal.returns-clause-groups
returns-clause-groups c = groups_can

pub returns-clause-merges : goal.returns-clause-merges
returns-clause-merges c = merges_can
