use Rattle.std.proofs.Common.{map, take}
use Rattle.pp_tables.specs.Skim.{payload_of}
use Rattle.pp_tables.specs.Apart.{ReadsSamples}
use Rattle.pp_tables.proofs.decoded.push_samples.Given as goal

-- the samples of the extents so far
abbrev pub invariant-loop-extent : goal.invariant-loop-extent
invariant-loop-extent l = ReadsSamples (map (payload_of l.bytes) (take l.extent-index l.extents)) l.fn.samples l.samples
