-- How options are spelled.
use Rattle.std.specs.Prelude.{ℕ, Bool, false, not, ◌&&◌, ◌==◌, List, [], ◌∷◌, drop, length, Option, Some, None, is_some, nat_lt, if◌then◌else◌}
use Rattle.std.specs.Option.{option_map_or}
use Rattle.std.specs.List.{list_any, before_first, after_first}
use Rattle.pp_options.specs.Names.{option_named, needs_value}
use Rattle.pp_base.specs.Words.{is_equals}

-- the text begins with a dash
abbrev pub has_dash : List ℕ → Bool
has_dash [] = false
has_dash (byte ∷ bytes) = byte == 45

-- the word begins with a dash and is longer
abbrev pub is_option : List ℕ → Bool
is_option word = has_dash word && nat_lt 1 (length word)

-- the text without a dash at its front, where it has one
abbrev pub without_dash : List ℕ → List ℕ
without_dash text = if has_dash text then drop 1 text else text

-- the option after its one or two dashes
abbrev pub without_dashes : List ℕ → List ℕ
without_dashes word = without_dash (without_dash word)

-- the option's name stands before the first `=`
abbrev pub name_part : List ℕ → List ℕ
name_part word = before_first is_equals (without_dashes word)

-- the option's value stands after the first `=`, where there is one
abbrev pub value_part : List ℕ → Option (List ℕ)
value_part word =
    let option = without_dashes word in
    if list_any is_equals option then Some (after_first is_equals option) else None

-- the word is an option whose value is the next word
unfoldable pub takes_next : List ℕ → Bool
takes_next word =
    (is_option word && not (is_some (value_part word)))
    && option_map_or needs_value (option_named (name_part word)) false
