use Rattle.std.proofs.Common.{◌≡◌, take}
use Rattle.pp_legacy.specs.Tables.{numbered_mappings}
use Rattle.pp_legacy.specs.Seen.{regions_of}
use Rattle.pp_legacy.proofs.regions.mappings_of.Given as goal

abbrev pub invariant-loop-place : goal.invariant-loop-place
invariant-loop-place l = l.mappings ≡ numbered_mappings (regions_of (take l.place l.regions))
