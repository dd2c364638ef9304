use Rattle.std.proofs.Common.{◌≡◌, take}
use Rattle.pp_pattern.specs.Masks.{masked}
use Rattle.pp_pattern.proofs.asking.mask.Given as goal

-- the verdicts on the subjects so far are masked
abbrev pub invariant-loop-i : goal.invariant-loop-i
invariant-loop-i l = l.found ≡ masked (take l.i l.subjects) l.fn.found
