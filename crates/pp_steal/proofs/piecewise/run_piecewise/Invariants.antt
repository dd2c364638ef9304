use Rattle.std.proofs.Common.{◌*◌, min, length, take}
use Rattle.pp_steal.specs.declared.piecewise.TheConstants.{WAVE}
use Rattle.pp_steal.proofs.piecewise.run_piecewise.Given as goal

-- the outcome of the waves so far
abbrev pub invariant-loop-wave : goal.invariant-loop-wave
invariant-loop-wave g l = g.W.Piecewise.right l.work (take (min (l.wave * WAVE) (length l.items)) l.items) l.all
