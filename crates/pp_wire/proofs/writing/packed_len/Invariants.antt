use Rattle.std.proofs.Common.{◌≡◌, ◌≤◌, ◌*◌, length, take}
use Rattle.std.specs.List.{flat_map}
use Rattle.pp_wire.specs.Spelling.{varint_bytes}
use Rattle.pp_wire.proofs.writing.packed_len.Given as goal

abbrev pub invariant-loop-n : goal.invariant-loop-n
invariant-loop-n l = record {
  is : l.len ≡ length (flat_map varint_bytes (take l.n-index l.list));
  most : l.len ≤ 10 * l.n-index;
}
