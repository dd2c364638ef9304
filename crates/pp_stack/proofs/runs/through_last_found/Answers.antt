use Rattle.std.proofs.Common.{arith}
use Rattle.std.proofs.lemmas.Grind.{common_steps}
use Rattle.pp_stack.proofs.RunLemmas.{no_frame, through_last_is}
use Rattle.pp_stack.proofs.runs.through_last_found.Goals as goal

-- the frame before the end is found, and none from the end on
pub returns-else-not-finds_frame : goal.returns-else-not-finds_frame
returns-else-not-finds_frame c find are =
    through_last_is _ _ _ no_frame c.loop-count.invariant.0 (λ k above below. c.loop-count.invariant.1 find are k no_frame above below)
    (λ _. grind (arith, common_steps, c.finds_frame.ensures find are))

-- no frame is found
pub returns-after-loop-count : goal.returns-after-loop-count
returns-after-loop-count c find are =
    through_last_is _ _ _ no_frame c.loop-count.invariant.0 (λ k above below. c.loop-count.invariant.1 find are k no_frame above below)
    (λ some. absurd (omega arith))
