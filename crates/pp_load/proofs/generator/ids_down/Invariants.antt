use Rattle.std.proofs.Common.{◌≡◌, ◌++◌}
use Rattle.pp_load.specs.Generator.{ids_down}
use Rattle.pp_load.proofs.generator.ids_down.Given as goal

-- those so far, and those from the next one down
abbrev pub invariant-loop-id : goal.invariant-loop-id
invariant-loop-id l = l.ids ++ ids_down l.id ≡ ids_down l.fn.first

abbrev pub decreases-loop-id : goal.decreases-loop-id
decreases-loop-id l = l.id
