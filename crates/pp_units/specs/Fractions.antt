-- Fractions of at most one, in billionths.
use Rattle.std.specs.Prelude.{ℕ, ◌+◌, ◌-◌, ◌*◌, ◌^◌, Bool, ◌&&◌, List, [], ◌∷◌, length, ◌==◌, nat_le, Option, Some, None, if◌then◌else◌}
use Rattle.std.specs.Char.{is_ascii_digit}
use Rattle.std.specs.List.{list_any, list_all, before_first, after_first}
use Rattle.std.specs.Str.Parse.{digits_value}

-- a point parts the whole number from the decimals
abbrev pub is_point : ℕ → Bool
is_point b = b == 46

-- at most nine digits
abbrev pub is_short_number : List ℕ → Bool
is_short_number text = nat_le (length text) 9 && list_all is_ascii_digit text

-- the value of whole digits and of decimals, in billionths
abbrev pub billionths : List ℕ → List ℕ → ℕ
billionths whole decimals =
    digits_value 10 whole * 10 ^ 9 + digits_value 10 decimals * 10 ^ (9 - length decimals)

-- such a value, where each part is short and the value is at most 1
abbrev pub at_most_one : List ℕ → List ℕ → Option ℕ
at_most_one whole decimals =
    if (is_short_number whole && is_short_number decimals)
    && nat_le (billionths whole decimals) (10 ^ 9)
    then Some (billionths whole decimals) else None

-- the value, where the part that has to be there is not empty
abbrev pub unless_empty : List ℕ → Option ℕ → Option ℕ
unless_empty [] found = None
unless_empty (b ∷ bs) found = found

-- the fraction that a text spells, in billionths: with a point decimals stand after it,
-- and without one digits stand
unfoldable pub fraction_of : List ℕ → Option ℕ
fraction_of text =
    let whole = before_first is_point text in
    let decimals = after_first is_point text in
    if list_any is_point text
    then unless_empty decimals (at_most_one whole decimals)
    else unless_empty text (at_most_one text [])
