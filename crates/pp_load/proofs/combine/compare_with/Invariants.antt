use Rattle.std.proofs.Common.{◌≡◌, ◌+◌, drop}
use Rattle.pp_merge.specs.Merge.{disagreeing}
use Rattle.pp_load.proofs.combine.compare_with.Given as goal

-- the profiles that are left decide
abbrev pub invariant-loop-place : goal.invariant-loop-place
invariant-loop-place l = disagreeing l.first (l.place + 1) (drop l.place l.others) ≡ disagreeing l.first 1 l.others
