use Rattle.pp_count.proofs.Placed.{PlacedTo}
use Rattle.pp_count.proofs.recounting.places.Given as goal

-- the first keys have their places
abbrev pub invariant-loop-index : goal.invariant-loop-index
invariant-loop-index l = PlacedTo l.keys l.numbers l.index l.place
