use Rattle.pp_share.specs.Repeats.{AreOfClass}
use Rattle.pp_share.proofs.repeats.of_class.Given as goal

-- the samples of the class so far
abbrev pub invariant-loop-place : goal.invariant-loop-place
invariant-loop-place l = AreOfClass l.hashes l.samples l.class l.place l.placed.items
