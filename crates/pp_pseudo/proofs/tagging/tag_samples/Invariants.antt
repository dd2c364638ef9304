use Rattle.std.proofs.Common.{take}
use Rattle.pp_pseudo.specs.Framed.{AreTagged}
use Rattle.pp_pseudo.proofs.tagging.tag_samples.Given as goal

-- the samples so far have the frames of the keys
abbrev pub invariant-loop-s : goal.invariant-loop-s
invariant-loop-s l = AreTagged l.l l.keys.roots.now l.keys.leaves.now (take l.s-index l.s-items) l.frames.names l.frames.places.locations l.samples
