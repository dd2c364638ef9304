-- The values of variables, as texts spell them.
use Rattle.std.specs.Prelude.{ℕ, ◌&&◌, ℤ, pos, negsuc, Bool, List, length, Option, Some, None, option_map, nat_lt, nat_le, bytes_eq, codes, if◌then◌else◌}
use Rattle.std.specs.Char.{is_ascii_digit}
use Rattle.std.specs.List.{list_all}
use Rattle.std.specs.Str.Parse.{digits_value}
use Rattle.pp_model.specs.declared.presentation.Sort.{Sort}
use Rattle.pp_model.specs.declared.grouping.Grain.{Grain}
use Rattle.pp_options.specs.declared.value.TheConstants.{SORTS, GRAINS, TRUTHS}
use Rattle.pp_options.specs.Tables.{value_named}

-- the order of the name
unfoldable pub sort_named : List ℕ → Option Sort
sort_named name = value_named SORTS name

-- the granularity of the name
unfoldable pub grain_named : List ℕ → Option Grain
grain_named name = value_named GRAINS name

-- the truth value that a word stands for
unfoldable pub truth_of : List ℕ → Option Bool
truth_of word = value_named TRUTHS word

-- the text is one or more decimal digits
abbrev pub is_number : List ℕ → Bool
is_number text = nat_lt 0 (length text) && list_all is_ascii_digit text

-- the number that digits spell, where it lies between the two
unfoldable pub whole_number : ℕ → ℕ → List ℕ → Option ℕ
whole_number least most text =
    let n = digits_value 10 text in
    if is_number text && (nat_le least n && nat_le n most) then Some n else None

-- the most rows of a report: digits up to 2147483647, or -1
unfoldable pub nodecount_of : List ℕ → Option ℤ
nodecount_of text =
    if bytes_eq text (codes "-1")
    then Some (negsuc 0)
    else option_map pos (whole_number 0 2147483647 text)
