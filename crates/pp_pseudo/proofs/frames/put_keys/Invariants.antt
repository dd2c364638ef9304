use Rattle.std.proofs.Common.{◌≤◌, length, drop}
use Rattle.pp_pseudo.specs.WithTags.{tag_locations}
use Rattle.pp_pseudo.specs.Framed.{placing, AddsFrames}
use Rattle.pp_pseudo.proofs.frames.put_keys.Given as goal

-- the frames of the keys from here on are added
abbrev pub invariant-loop-left : goal.invariant-loop-left
invariant-loop-left l = record {
  within : l.left ≤ length l.keys;
  adds : AddsFrames l.p (placing l.fn.frames l.fn.ids) (placing l.frames l.ids) (tag_locations l.p (drop l.left l.keys) l.labels);
}

abbrev pub decreases-loop-left : goal.decreases-loop-left
decreases-loop-left l = l.left
