use Rattle.std.proofs.Common.{take}
use Rattle.pp_dump.specs.Places.{AreCopies}
use Rattle.pp_dump.proofs.whole.copy_samples.Given as goal

-- the samples of the numbers so far are copied
abbrev pub invariant-loop-number : goal.invariant-loop-number
invariant-loop-number l = AreCopies l.l l.v (take l.number-index l.kept) l.samples
