-- The canonical bytes of a field: each varint is the shortest.
use Rattle.std.specs.Prelude.{ℕ, zero, suc, ◌+◌, ◌*◌, ◌/◌, ◌%◌, List, [], ◌∷◌, ◌++◌, length, nat_lt, ◌==◌, if◌then◌else◌}
use Rattle.std.specs.List.{flat_map}

-- the shortest groups of a number, where at most as many come before the last as the first number says
unfoldable pub shortest : ℕ → ℕ → List ℕ
shortest zero n = n ∷ []
shortest (suc more) n = if nat_lt n 128 then n ∷ [] else (128 + n % 128) ∷ shortest more (n / 128)

-- the shortest varint of a number below 2^64
abbrev pub varint_bytes : ℕ → List ℕ
varint_bytes n = shortest 9 n

-- a tag is `(number << 3) | kind`
abbrev pub tag_bytes : ℕ → ℕ → List ℕ
tag_bytes number kind = varint_bytes (8 * number + kind)

-- a number in a varint, which is left out where it is 0
abbrev pub number_field : ℕ → ℕ → List ℕ
number_field number n = if n == 0 then [] else tag_bytes number 0 ++ varint_bytes n

-- a run of bytes behind its length
abbrev pub bytes_field : ℕ → List ℕ → List ℕ
bytes_field number bytes = tag_bytes number 2 ++ varint_bytes (length bytes) ++ bytes

-- numbers as varints one after another in a run, which is left out where there are none
abbrev pub packed_field : ℕ → List ℕ → List ℕ
packed_field number [] = []
packed_field number (n ∷ list) = bytes_field number (flat_map varint_bytes (n ∷ list))
