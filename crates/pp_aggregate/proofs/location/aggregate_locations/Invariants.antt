use Rattle.std.proofs.Common.{◌≡◌, ◌++◌, map, take, drop}
use Rattle.pp_aggregate.specs.Aggregated.{aggregated_location}
use Rattle.pp_aggregate.proofs.location.aggregate_locations.Given as goal

abbrev pub invariant-loop-location : goal.invariant-loop-location
invariant-loop-location l =
    l.locations ≡ map (aggregated_location l.keep) (take l.location-index l.fn.locations) ++ drop l.location-index l.fn.locations
