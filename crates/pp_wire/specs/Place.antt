-- Where the payload of a field lies.
use Rattle.std.specs.Prelude.{ℕ, ◌+◌, length}
use Rattle.pp_wire.specs.declared.field.Payload.{Payload}
use Rattle.pp_wire.specs.declared.field.Payload.TheVariants as payload

-- the place behind a run of bytes, and 0 for a number
abbrev pub end_of : Payload → ℕ
end_of (payload.Varint n) = 0
end_of (payload.Eight n) = 0
end_of (payload.Four n) = 0
end_of (payload.Bytes bytes at) = at + length bytes.now
