use Rattle.std.proofs.Common.{◌≡◌, ◌-◌, ◌<◌, ◌++◌, take}
use Rattle.pp_wire.specs.Spelling.{shortest, varint_bytes}
use Rattle.pp_wire.proofs.Shortest.{bound}
use Rattle.pp_wire.proofs.varint.varint_into.Given as goal

-- the groups that are written, and then those of the rest
abbrev pub invariant-loop-len : goal.invariant-loop-len
invariant-loop-len l = record {
  written : take l.len l.buffer ++ shortest (9 - l.len) l.rest ≡ varint_bytes l.n;
  small : l.rest < bound l.len;
}
