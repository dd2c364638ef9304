use Rattle.std.proofs.Common.{◌≡◌, ◌++◌, take}
use Rattle.std.specs.List.{flat_map}
use Rattle.pp_wire.specs.Spelling.{varint_bytes}
use Rattle.pp_wire.proofs.writing.append_varints.Given as goal

abbrev pub invariant-loop-n : goal.invariant-loop-n
invariant-loop-n l = l.out ≡ l.fn.out ++ flat_map varint_bytes (take l.n-index l.list)
