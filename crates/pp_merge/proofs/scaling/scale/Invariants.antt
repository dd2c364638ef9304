use Rattle.std.proofs.Common.{◌≡◌, ◌++◌, map, take, drop}
use Rattle.pp_merge.specs.Scale.{scaled_sample}
use Rattle.pp_merge.proofs.scaling.scale.Given as goal

-- the samples so far are scaled
abbrev pub invariant-loop-sample : goal.invariant-loop-sample
invariant-loop-sample l =
    l.p ≡ record l.fn.p { sample = map (scaled_sample l.column l.num l.den) (take l.sample l.fn.p.sample) ++ drop l.sample l.fn.p.sample }
