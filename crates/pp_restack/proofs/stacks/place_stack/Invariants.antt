use Rattle.std.proofs.Common.{length}
use Rattle.pp_restack.proofs.Placing.{PlacedTo}
use Rattle.pp_restack.proofs.stacks.place_stack.Given as goal

abbrev pub decreases-loop-rest : goal.decreases-loop-rest
decreases-loop-rest l = length l.rest

-- the groups so far have their locations
abbrev pub invariant-loop-rest : goal.invariant-loop-rest
invariant-loop-rest l = PlacedTo l.p l.fn.places.locations l.fn.ids l.fn.stack l.rest l.places.locations l.ids
