use Rattle.std.proofs.Common.{◌≡◌, ◌++◌, ◌*◌, min, length, take}
use Rattle.std.specs.List.{flat_map}
use Rattle.pp_dump.specs.declared.samples.TheConstants.{WAVE}
use Rattle.pp_dump.specs.Raw.{sample_lines}
use Rattle.pp_dump.proofs.samples.put_all_samples.Given as goal

-- the lines of the waves so far
abbrev pub invariant-loop-wave : goal.invariant-loop-wave
invariant-loop-wave g l =
    l.lines ≡ l.initial.lines ++ flat_map (sample_lines l.p) (take (min (l.wave * WAVE) (length l.samples)) l.samples)
