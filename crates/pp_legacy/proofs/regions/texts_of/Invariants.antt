use Rattle.std.proofs.Common.{◌≡◌, take}
use Rattle.pp_legacy.specs.Tables.{texts_of}
use Rattle.pp_legacy.specs.Seen.{regions_of}
use Rattle.pp_legacy.proofs.regions.texts_of.Given as goal

abbrev pub invariant-loop-region : goal.invariant-loop-region
invariant-loop-region l = l.texts ≡ texts_of (regions_of (take l.region-index l.regions))
