use Rattle.pp_library.specs.Places.{HasRowPlaces}
use Rattle.pp_library.proofs.edging.places_of.Given as goal

-- the rows so far have their places
abbrev pub invariant-loop-row : goal.invariant-loop-row
invariant-loop-row l = HasRowPlaces l.names l.order l.row l.places
