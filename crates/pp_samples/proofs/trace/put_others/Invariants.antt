use Rattle.std.proofs.Common.{◌≡◌, ◌++◌, [], map, take}
use Rattle.std.specs.List.{flat_map}
use Rattle.pp_samples.specs.Traces.{frame_line}
use Rattle.pp_samples.specs.Tracing.{trace_key}
use Rattle.pp_samples.proofs.trace.put_others.Given as goal

-- the lines of the keys so far
abbrev pub invariant-loop-key : goal.invariant-loop-key
invariant-loop-key l = l.lines ≡ l.initial.lines ++ flat_map (frame_line []) (map (trace_key l.t) (take l.key-index l.keys))
