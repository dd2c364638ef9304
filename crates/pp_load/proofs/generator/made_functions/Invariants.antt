use Rattle.std.proofs.Common.{◌≡◌, map}
use Rattle.std.specs.List.{range_with_len}
use Rattle.pp_load.specs.Generator.{made_function}
use Rattle.pp_load.proofs.generator.made_functions.Given as goal

-- those so far
abbrev pub invariant-loop-place : goal.invariant-loop-place
invariant-loop-place l = l.functions ≡ map made_function (range_with_len 0 l.place)
