use Rattle.std.proofs.Common.{◌≡◌, map}
use Rattle.pp_share.specs.PlaceKeys.{distant, place_of_key}
use Rattle.pp_share.proofs.places.location_keys.Given as goal

abbrev pub invariant-loop-location : goal.invariant-loop-location
invariant-loop-location l =
    map place_of_key l.keys.items ≡ map (distant l.mappings l.ids) l.yielded
