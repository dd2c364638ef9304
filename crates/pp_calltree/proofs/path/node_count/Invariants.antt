use Rattle.std.proofs.Common.{◌≤◌, take}
use Rattle.pp_calltree.specs.CallTree.{all_lengths}
use Rattle.pp_calltree.specs.Paths.{below}
use Rattle.pp_calltree.proofs.path.node_count.Given as goal

-- no more than the keys of the paths so far
abbrev pub invariant-loop-place : goal.invariant-loop-place
invariant-loop-place l = l.count ≤ all_lengths (below 0 (take l.place l.paths))
