use Rattle.std.proofs.Common.{◌≡◌, take}
use Rattle.pp_edit.proofs.copying.same_locations.Given as goal

abbrev pub invariant-loop-location : goal.invariant-loop-location
invariant-loop-location l = l.list ≡ take l.location-index l.locations
