use Rattle.std.proofs.Common.{◌≡◌, ◌++◌, take}
use Rattle.std.specs.List.{flat_map}
use Rattle.pp_dump.specs.Raw.{location_lines}
use Rattle.pp_dump.proofs.locations.put_each_location.Given as goal

abbrev pub invariant-loop-location : goal.invariant-loop-location
invariant-loop-location l = l.lines ≡ l.initial.lines ++ flat_map (location_lines l.p) (take l.location-index l.location-items)
