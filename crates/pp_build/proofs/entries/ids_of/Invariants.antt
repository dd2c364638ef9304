use Rattle.std.proofs.Common.{◌≡◌, map, take}
use Rattle.pp_build.specs.declared.given.LocationId.{LocationId}
use Rattle.pp_build.proofs.entries.ids_of.Given as goal

-- the ids so far
abbrev pub invariant-loop-location : goal.invariant-loop-location
invariant-loop-location l =
    l.list ≡ map (λ (id : LocationId). id.number) (take l.location-index l.locations)
