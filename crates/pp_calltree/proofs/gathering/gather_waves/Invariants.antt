use Rattle.std.proofs.Common.{◌*◌, min}
use Rattle.pp_count.specs.Scope.{samples_in_scope}
use Rattle.pp_count.proofs.Pieces.{front_of}
use Rattle.pp_calltree.specs.declared.gathering.TheConstants.{WAVE}
use Rattle.pp_calltree.specs.Paths.{HasPaths}
use Rattle.pp_calltree.proofs.gathering.gather_waves.Given as goal

-- the waves so far are gathered
abbrev pub invariant-loop-wave : goal.invariant-loop-wave
invariant-loop-wave g l = HasPaths l.scope (front_of (samples_in_scope l.scope) (min (l.wave * WAVE) l.pieces)) l.paths
