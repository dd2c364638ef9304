-- Ranges of numbers with units: how they are read, and what lies in them.
use Rattle.std.specs.Prelude.{ℕ, ◌^◌, ℤ, pos, negsuc, neg_ℤ, ◌*ℤ◌, int_le, Bool, true, ◌&&◌, List, [], ◌∷◌, length, drop, take_while, ◌==◌, nat_lt, Option, Some, None, option_map, if◌then◌else◌}
use Rattle.std.specs.Char.{is_ascii_digit, is_ascii_alphabetic}
use Rattle.std.specs.List.{list_any, list_all, prefix_len, before_first, after_first}
use Rattle.std.specs.Str.Parse.{digits_value, starts_with_minus, without_leading_sign}
use Rattle.pp_units.specs.declared.range.Bound.{Bound}
use Rattle.pp_units.specs.declared.range.Range.{Range}
use Rattle.pp_units.specs.Shown.{factor_of, is_same_kind}

-- the digits of a bound, after a sign
abbrev pub digits_of : List ℕ → List ℕ
digits_of text = take_while is_ascii_digit (without_leading_sign text)

-- what stands after the digits
abbrev pub unit_of : List ℕ → List ℕ
unit_of text =
    let unsigned = without_leading_sign text in
    drop (prefix_len is_ascii_digit unsigned) unsigned

-- a number of this size and sign
abbrev pub with_sign : Bool → ℕ → ℤ
with_sign negative size = if negative then neg_ℤ (pos size) else pos size

-- the number, where it fits 64 bits with a sign
abbrev pub fitting : ℤ → Option ℤ
fitting (pos n) = if nat_lt n (2 ^ 63) then Some (pos n) else None
fitting (negsuc n) = if nat_lt n (2 ^ 63) then Some (negsuc n) else None

-- the text is a sign or none, digits, and letters or none
abbrev pub is_bound : List ℕ → Bool
is_bound text = nat_lt 0 (length (digits_of text)) && list_all is_ascii_alphabetic (unit_of text)

-- the number of a bound, where it fits
abbrev pub number_of : List ℕ → Option ℤ
number_of text = fitting (with_sign (starts_with_minus text) (digits_value 10 (digits_of text)))

-- a bound of this number and unit
abbrev pub bound_at : List ℕ → ℤ → Bound
bound_at unit number = record { number = number; unit = unit }

-- the bound that a text spells
unfoldable pub bound_of : List ℕ → Option Bound
bound_of text =
    if is_bound text then option_map (bound_at (unit_of text)) (number_of text) else None

-- one side of a range: nothing, or a bound
abbrev pub side_of : List ℕ → Option (Option Bound)
side_of [] = Some None
side_of (b ∷ bs) = option_map Some (bound_of (b ∷ bs))

-- a range of two sides, of which one is there
abbrev pub between : Option (Option Bound) → Option (Option Bound) → Option Range
between (Some None) (Some None) = None
between (Some low) (Some high) = Some (record { low = low; high = high })
between _ _ = None

-- a range from a bound to itself
abbrev pub alone : Bound → Range
alone bound = record { low = Some bound; high = Some bound }

-- a colon parts the two sides
abbrev pub is_colon : ℕ → Bool
is_colon b = b == 58

-- the range that a text spells
unfoldable pub range_of : List ℕ → Option Range
range_of text =
    if list_any is_colon text
    then between (side_of (before_first is_colon text)) (side_of (after_first is_colon text))
    else option_map alone (bound_of text)

-- a number of the unit, counted in the smallest unit of the family
abbrev pub in_smallest_unit : ℤ → List ℕ → ℤ
in_smallest_unit number unit = number *ℤ pos (factor_of unit)

-- a bound without a unit has that of the number
abbrev pub has_unit : Bound → Bool
has_unit bound = nat_lt 0 (length bound.unit)

-- the number is not below the bound, if there is one
abbrev pub is_above : Option Bound → ℤ → List ℕ → Bool
is_above None num unit = true
is_above (Some bound) num unit =
    if has_unit bound
    then is_same_kind bound.unit unit && int_le (in_smallest_unit bound.number bound.unit) (in_smallest_unit num unit)
    else int_le bound.number num

-- the number is not above the bound, if there is one
abbrev pub is_below : Option Bound → ℤ → List ℕ → Bool
is_below None num unit = true
is_below (Some bound) num unit =
    if has_unit bound
    then is_same_kind bound.unit unit && int_le (in_smallest_unit num unit) (in_smallest_unit bound.number bound.unit)
    else int_le num bound.number

-- the number of the unit lies in the range
unfoldable pub in_range : Range → ℤ → List ℕ → Bool
in_range range num unit = is_above range.low num unit && is_below range.high num unit
