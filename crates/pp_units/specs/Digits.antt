-- Numbers in digits.
use Rattle.std.specs.Prelude.{ℕ, ◌&&◌, List, Option, Some, None, nat_le, if◌then◌else◌}
use Rattle.std.specs.Char.{is_ascii_digit}
use Rattle.std.specs.List.{list_all}
use Rattle.std.specs.Str.Parse.{digits_value}

-- the number that a text of digits spells, where it is no greater
abbrev pub within : ℕ → List ℕ → Option ℕ
within most digits =
    if list_all is_ascii_digit digits && nat_le (digits_value 10 digits) most
    then Some (digits_value 10 digits) else None
