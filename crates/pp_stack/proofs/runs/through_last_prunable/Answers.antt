use Rattle.std.proofs.Common.{arith}
use Rattle.std.proofs.lemmas.Grind.{common_steps}
use Rattle.pp_stack.proofs.RunLemmas.{no_frame, through_last_is, as_wanted-is}
use Rattle.pp_stack.proofs.runs.through_last_prunable.Goals as goal

-- the frame before the end is as it is wanted, and none from the end on
pub returns-else-is_prunable-wanted-clause-exact : goal.returns-else-is_prunable-wanted-clause-exact
returns-else-is_prunable-wanted-clause-exact c find are f keep =
    through_last_is _ _ _ no_frame c.loop-end.invariant.0 (λ k above below. c.loop-end.invariant.1 find are f keep k no_frame above below)
    (λ _. grind (arith, common_steps, as_wanted-is, c.is_prunable.ensures find are f keep))

-- no frame is as it is wanted
pub returns-after-loop-end-clause-exact : goal.returns-after-loop-end-clause-exact
returns-after-loop-end-clause-exact c find are f keep =
    through_last_is _ _ _ no_frame c.loop-end.invariant.0 (λ k above below. c.loop-end.invariant.1 find are f keep k no_frame above below)
    (λ some. absurd (omega arith))
