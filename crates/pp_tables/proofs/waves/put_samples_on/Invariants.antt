use Rattle.std.proofs.Common.{◌≡◌, ◌++◌, ◌*◌, min, length, take}
use Rattle.std.specs.List.{AllByRecursion}
use Rattle.pp_tables.specs.declared.waves.TheConstants.{WAVE}
use Rattle.pp_tables.specs.Encode.{message_fields, sample_bytes}
use Rattle.pp_tables.specs.Fits.{RowFits}
use Rattle.pp_tables.proofs.waves.put_samples_on.Given as goal

-- the fields of the waves so far
abbrev pub invariant-loop-wave : goal.invariant-loop-wave
invariant-loop-wave g l = record {
  written : l.out ≡ l.initial.out ++ message_fields sample_bytes 2 (take (min (l.wave * WAVE) (length l.samples)) l.samples);
  numbers : AllByRecursion RowFits (take (min (l.wave * WAVE) (length l.samples)) l.samples);
}
