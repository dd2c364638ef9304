use Rattle.std.proofs.Common.{◌≡◌, ◌++◌, take}
use Rattle.std.specs.List.{flat_map}
use Rattle.pp_dump.specs.Raw.{label_line}
use Rattle.pp_dump.proofs.samples.put_labels.Given as goal

abbrev pub invariant-loop-label : goal.invariant-loop-label
invariant-loop-label l = l.lines ≡ l.initial.lines ++ flat_map (label_line l.p) (take l.label-index l.labels)
