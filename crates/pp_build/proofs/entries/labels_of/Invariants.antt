use Rattle.std.proofs.Common.{◌≡◌, map, take}
use Rattle.pp_build.specs.Given.{label_of}
use Rattle.pp_build.proofs.entries.labels_of.Given as goal

-- the labels so far
abbrev pub invariant-loop-label : goal.invariant-loop-label
invariant-loop-label l = l.list ≡ map label_of (take l.label-index l.labels)
