use Rattle.std.proofs.Common.{◌≡◌, ◌++◌, take}
use Rattle.std.specs.List.{flat_map}
use Rattle.pp_samples.specs.Traces.{trace_label_line}
use Rattle.pp_samples.proofs.label_lines.put_labels.Given as goal

-- the lines of the labels so far
abbrev pub invariant-loop-label : goal.invariant-loop-label
invariant-loop-label l = l.text ≡ l.initial.text ++ flat_map (trace_label_line l.p) (take l.label-index l.labels)
