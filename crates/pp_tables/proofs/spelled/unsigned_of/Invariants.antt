use Rattle.std.proofs.Common.{◌≡◌, map, take}
use Rattle.std.specs.List.{AllByRecursion}
use Rattle.pp_tables.specs.Encode.{unsigned}
use Rattle.pp_tables.specs.Fits.{IsInt}
use Rattle.pp_tables.proofs.spelled.unsigned_of.Given as goal

abbrev pub invariant-loop-n : goal.invariant-loop-n
invariant-loop-n l = record {
  written : l.numbers.items ≡ map unsigned (take l.n-index l.list);
  numbers : AllByRecursion IsInt (take l.n-index l.list);
}
