use Rattle.std.proofs.Common.{◌≡◌, map}
use Rattle.pp_share.specs.PlaceKeys.{near, place_of_key}
use Rattle.pp_share.proofs.places.locations_of.Given as goal

abbrev pub invariant-loop-key : goal.invariant-loop-key
invariant-loop-key l = l.locations ≡ map (near l.mappings) (map place_of_key l.yielded)
