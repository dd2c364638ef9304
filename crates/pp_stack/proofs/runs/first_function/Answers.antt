use Rattle.std.proofs.Common.{arith}
use Rattle.std.proofs.lemmas.Grind.{common_steps}
use Rattle.pp_stack.proofs.RunLemmas.{no_frame, position_at, position_none}
use Rattle.pp_stack.proofs.runs.first_function.Goals as goal

-- the function at the place is found, and none before it
pub returns-then-finds_function-clause-first : goal.returns-then-finds_function-clause-first
returns-then-finds_function-clause-first c find are =
    position_at _ _ _ no_frame c.loop-i-test.true (λ k below. c.loop-i.invariant find are k no_frame below)
    (grind (arith, common_steps, c.finds_function.ensures find are))

-- none is found
pub returns-clause-first : goal.returns-clause-first
returns-clause-first c find are =
    position_none _ _ _ no_frame c.loop-i-test.false (λ k below. c.loop-i.invariant find are k no_frame below)
