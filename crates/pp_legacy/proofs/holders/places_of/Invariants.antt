use Rattle.pp_legacy.specs.Free.{HasPlaces}
use Rattle.pp_legacy.proofs.holders.places_of.Given as goal

abbrev pub invariant-loop-place : goal.invariant-loop-place
invariant-loop-place l = HasPlaces l.free l.addresses l.place
