use Rattle.std.proofs.Common.{◌*◌, min}
use Rattle.pp_count.specs.declared.waves.TheConstants.{WAVE}
use Rattle.pp_count.specs.Scope.{samples_in_scope, AreCounted}
use Rattle.pp_count.proofs.Pieces.{front_of}
use Rattle.pp_count.proofs.waves.count_waves.Given as goal

-- the waves so far are counted
abbrev pub invariant-loop-wave : goal.invariant-loop-wave
invariant-loop-wave g l = AreCounted l.scope (front_of (samples_in_scope l.scope) (min (l.wave * WAVE) l.pieces)) l.sofar
