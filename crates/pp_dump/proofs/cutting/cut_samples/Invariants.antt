use Rattle.std.proofs.Common.{take}
use Rattle.pp_count.specs.Counts.{samples_at}
use Rattle.pp_dump.specs.Places.{AddsSamples}
use Rattle.pp_dump.proofs.cutting.cut_samples.Given as goal

-- the samples of the numbers so far are added
abbrev pub invariant-loop-number : goal.invariant-loop-number
invariant-loop-number l =
    AddsSamples l.l l.v (samples_at l.l.profile (take l.number-index l.kept)) l.fn.cut.samples l.fn.cut.places.locations l.cut.samples l.cut.places.locations
