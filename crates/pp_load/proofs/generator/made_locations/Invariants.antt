use Rattle.std.proofs.Common.{◌≡◌, map}
use Rattle.std.specs.List.{range_with_len}
use Rattle.pp_load.specs.Generator.{made_location}
use Rattle.pp_load.proofs.generator.made_locations.Given as goal

-- those so far
abbrev pub invariant-loop-place : goal.invariant-loop-place
invariant-loop-place l = l.locations ≡ map made_location (range_with_len 0 l.place)
