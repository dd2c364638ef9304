use Rattle.std.proofs.Common.{◌≡◌, ◌+◌, ◌-◌, length}
use Rattle.pp_wire.specs.Spelling.{shortest, varint_bytes}
use Rattle.pp_wire.proofs.varint.varint_len.Given as goal

-- the groups before this one, with those of the rest, are all
abbrev pub invariant-loop-len : goal.invariant-loop-len
invariant-loop-len l = length (shortest (10 - l.len) l.rest) + l.len ≡ length (varint_bytes l.n) + 1
