use Rattle.std.proofs.Common.{◌≡◌, length}
use Rattle.pp_samples.specs.FrameLines.{AreFrameLines}
use Rattle.pp_samples.proofs.frame_lines.frame_lines.Given as goal

-- the lines of the keys so far
abbrev pub invariant-loop-number : goal.invariant-loop-number
invariant-loop-number l = record {
  are : AreFrameLines l.l.profile l.names l.made;
  count : length l.made.places.items ≡ l.number;
}
