use Rattle.std.proofs.Common.{◌≡◌, take}
use Rattle.pp_legacy.specs.Tables.{numbered_locations}
use Rattle.pp_legacy.proofs.holders.locations_of.Given as goal

abbrev pub invariant-loop-place : goal.invariant-loop-place
invariant-loop-place l = l.locations ≡ numbered_locations l.mappings (take l.place l.addresses)
