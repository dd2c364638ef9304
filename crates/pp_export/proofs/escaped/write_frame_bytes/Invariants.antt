use Rattle.std.proofs.Common.{◌≡◌, ◌++◌, drop, map, take}
use Rattle.pp_export.specs.Escaped.{frame_byte}
use Rattle.pp_export.proofs.escaped.write_frame_bytes.Given as goal

-- the bytes so far
abbrev pub invariant-loop-byte : goal.invariant-loop-byte
invariant-loop-byte l = l.name ≡ map frame_byte (take l.byte-index l.initial.name) ++ drop l.byte-index l.initial.name
