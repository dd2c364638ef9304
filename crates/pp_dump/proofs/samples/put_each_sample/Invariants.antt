use Rattle.std.proofs.Common.{◌≡◌, ◌++◌, take}
use Rattle.std.specs.List.{flat_map}
use Rattle.pp_dump.specs.Raw.{sample_lines}
use Rattle.pp_dump.proofs.samples.put_each_sample.Given as goal

abbrev pub invariant-loop-s : goal.invariant-loop-s
invariant-loop-s l = l.lines ≡ l.initial.lines ++ flat_map (sample_lines l.p) (take l.s-index l.samples)
