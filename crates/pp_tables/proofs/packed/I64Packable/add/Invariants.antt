use Rattle.std.proofs.Common.{◌≡◌, ◌++◌, map, take}
use Rattle.pp_tables.specs.Select.{signed}
use Rattle.pp_tables.proofs.packed.I64Packable.add.Given as goal

abbrev pub invariant-loop-n : goal.invariant-loop-n
invariant-loop-n l = l.list ≡ l.fn.list ++ map signed (take l.n-index l.varints)
