use Rattle.std.proofs.Common.{◌≡◌, None, replicate}
use Rattle.pp_library.proofs.edging.no_places.Given as goal

abbrev pub invariant-loop : goal.invariant-loop
invariant-loop l = l.places ≡ replicate l.counter None
