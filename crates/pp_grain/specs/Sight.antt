-- Numbers that are given to keys at first sight.
use Rattle.std.specs.Prelude.{ℕ, Bool, ◌&&◌, ◌==◌, List, [], ◌∷◌, ◌++◌, if◌then◌else◌}
use Rattle.std.specs.List.{list_any, position_or_len}
use Rattle.std.specs.Ordering.{int_eq}
use Rattle.pp_grain.specs.declared.key.Key.{Key}

-- the keys have the same fields
abbrev pub same_key : Key → Key → Bool
same_key a b =
    a.function == b.function
    && (a.file == b.file
    && (int_eq a.line b.line
    && (int_eq a.column b.column && (a.address == b.address && a.object == b.object))))

-- the keys seen, in order of first sight, after one more
abbrev pub with_key : List Key → Key → List Key
with_key keys key = if list_any (same_key key) keys then keys else keys ++ key ∷ []

-- the number of the key: its place, or the next one where it is new
abbrev pub key_number_in : List Key → Key → ℕ
key_number_in keys key = position_or_len (same_key key) keys
