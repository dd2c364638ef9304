use Rattle.std.proofs.Common.{◌≡◌, length}
use Rattle.pp_tour.proofs.stack.found.Given as goal

-- a verdict for each text so far
abbrev pub invariant-loop-other : goal.invariant-loop-other
invariant-loop-other l = length l.found ≡ l.other-index
