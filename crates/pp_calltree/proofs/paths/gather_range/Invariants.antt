use Rattle.std.proofs.Common.{take, drop}
use Rattle.pp_count.specs.Scope.{samples_in_scope}
use Rattle.pp_calltree.specs.Paths.{HasPaths}
use Rattle.pp_calltree.proofs.paths.gather_range.Given as goal

-- the paths of the samples so far
abbrev pub invariant-loop-index : goal.invariant-loop-index
invariant-loop-index l = HasPaths l.scope (take l.index (drop l.fn.first (samples_in_scope l.scope))) l.paths
