-- A file as words of 64 bits, of which the lowest byte comes first (gperftools, "CPU Profile format", "Data format").
use Rattle.std.specs.Prelude.{ℕ, ◌+◌, ◌*◌, ◌/◌, List, length, map, take, drop, slice_get, nat_le, Ok, Err, if◌then◌else◌}
use Rattle.std.specs.Int.{w64, from_le_bytes}
use Rattle.std.specs.List.{range_with_len}
use Rattle.std.specs.Option.{ok_or}
use Rattle.pp_legacy.specs.declared.fault.LegacyKind.TheVariants.{Truncated}
use Rattle.pp_legacy.specs.declared.fault.LegacyFault.{LegacyFault}
use Rattle.pp_legacy.specs.Steps.{Reading, fault_at}

-- the eight bytes of word i, as a number
abbrev pub number_at : List ℕ → ℕ → ℕ
number_at bytes i = from_le_bytes w64 (take 8 (drop (8 * i) bytes))

-- the whole words of the bytes, in order; up to seven bytes behind them are none
unfoldable pub whole_words : List ℕ → List ℕ
whole_words bytes = map (number_at bytes) (range_with_len 0 (length bytes / 8))

-- a word that is needed isn't there: the fault is told at the number of whole words
abbrev pub truncated : List ℕ → LegacyFault
truncated ws = fault_at Truncated (length ws)

-- word i, which is needed
abbrev pub word_at : List ℕ → ℕ → Reading ℕ
word_at ws i = ok_or (slice_get ws i) (truncated ws)

-- the number of the word behind `count` words from word i on, which are all needed
abbrev pub behind_words : List ℕ → ℕ → ℕ → Reading ℕ
behind_words ws i count = if nat_le (i + count) (length ws) then Ok (i + count) else Err (truncated ws)
