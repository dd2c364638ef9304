use Rattle.std.proofs.Common.{take}
use Rattle.pp_share.specs.Hashes.{AreHashesBy}
use Rattle.pp_share.proofs.hashes.hash_samples.Given as goal

-- the hashes of the samples so far
abbrev pub invariant-loop-sample : goal.invariant-loop-sample
invariant-loop-sample g l = AreHashesBy (g.H.SampleHash.hash l.by) (take l.sample-index l.samples) l.hashes
