use Rattle.std.proofs.Common.{◌+◌}
use Rattle.pp_count.specs.Scope.{samples_in_scope}
use Rattle.pp_count.proofs.Pieces.{front_of}
use Rattle.pp_calltree.specs.Paths.{HasPaths}
use Rattle.pp_calltree.proofs.gathering.gather_wave.Given as goal

-- the pieces so far are gathered
abbrev pub invariant-loop-part : goal.invariant-loop-part
invariant-loop-part g l = HasPaths l.job.scope (front_of (samples_in_scope l.job.scope) (l.job.first + l.part-index)) l.paths
