use Rattle.std.proofs.Common.{◌≡◌, ◌+◌, ◌-◌, length}
use Rattle.pp_wire.specs.Varint.{groups, varint}
use Rattle.pp_wire.proofs.Varints.{with_front}
use Rattle.pp_wire.proofs.varint.long_varint_of.Given as goal

-- the value so far, with what is still read, is the varint
abbrev pub invariant-loop : goal.invariant-loop
invariant-loop l = record {
  so_far : with_front l.value l.scale (groups (10 - l.counter) l.rest) ≡ varint l.bytes;
  taken : length l.rest + l.counter ≡ length l.bytes;
}
