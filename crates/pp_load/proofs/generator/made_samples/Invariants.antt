use Rattle.std.proofs.Common.{◌≡◌, map}
use Rattle.std.specs.List.{range_with_len}
use Rattle.pp_load.specs.Generator.{made_sample}
use Rattle.pp_load.proofs.generator.made_samples.Given as goal

-- those so far
abbrev pub invariant-loop-number : goal.invariant-loop-number
invariant-loop-number l = l.list ≡ map made_sample (range_with_len 0 l.number)
