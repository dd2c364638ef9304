-- The words after a command.
use Rattle.std.specs.Prelude.{ℕ, ◌==◌, Bool, true, false, ◌||◌, List, [], ◌∷◌, drop, Option, Some, None, Result, Ok, Err, bytes_eq, codes, if◌then◌else◌}
use Rattle.std.specs.List.{list_any, filter_map, last_or, join_with_byte}
use Rattle.pp_options.specs.Values.{whole_number}
use Rattle.pp_shell.specs.declared.fault.LineFault.{LineFault}
use Rattle.pp_shell.specs.declared.fault.LineFault.TheVariants.{EmptyRedirect, PipeNotServed}
use Rattle.pp_shell.specs.declared.narrowing.Narrowing.{Narrowing}
use Rattle.pp_shell.specs.declared.argument.Argument.{Argument}
use Rattle.pp_shell.specs.declared.argument.Argument.TheVariants.{Rows, Output, ByCum, Ignore, Focus}

-- the text begins with the byte
abbrev pub begins_with : ℕ → List ℕ → Bool
begins_with byte [] = false
begins_with byte (first ∷ bytes) = first == byte

-- what a word asks for that is no number of rows; `>` alone is told apart before
abbrev pub word_argument : List ℕ → Result Argument LineFault
word_argument word =
    if begins_with 124 word then Err PipeNotServed
    else if begins_with 62 word then Ok (Output (drop 1 word))
    else if bytes_eq word (codes "-cum") || bytes_eq word (codes "--cum") then Ok ByCum
    else if begins_with 45 word then Ok (Ignore (drop 1 word))
    else Ok (Focus word)

-- a number of rows, or what another word asks for
abbrev pub argument_or : List ℕ → Option ℕ → Result Argument LineFault
argument_or word (Some rows) = Ok (Rows rows)
argument_or word None = word_argument word

-- what a word asks for, where it isn't `>` alone
unfoldable pub argument_of : List ℕ → Result Argument LineFault
argument_of word = argument_or word (whole_number 0 2147483647 word)

-- an argument before the others, or the first fault
abbrev pub argument_before : Result Argument LineFault → Result (List Argument) LineFault
    → Result (List Argument) LineFault
argument_before (Err fault) others = Err fault
argument_before (Ok argument) (Err fault) = Err fault
argument_before (Ok argument) (Ok others) = Ok (argument ∷ others)

-- the sign of a redirection, alone
abbrev pub is_redirect : List ℕ → Bool
is_redirect word = bytes_eq word (codes ">")

-- What the words ask for, from left to right, or their first fault. The word after `>` alone is
-- the path of the file.
abbrev pub arguments : List (List ℕ) → Result (List Argument) LineFault
arguments [] = Ok []
arguments (word ∷ []) =
    if is_redirect word then Err EmptyRedirect else argument_before (argument_of word) (Ok [])
arguments (word ∷ next ∷ words) =
    if is_redirect word then argument_before (Ok (Output next)) (arguments words)
    else argument_before (argument_of word) (arguments (next ∷ words))

-- the number of rows that an argument asks for
abbrev pub rows_of : Argument → Option ℕ
rows_of (Rows rows) = Some rows
rows_of argument = None

-- the path that an argument asks for
abbrev pub output_of : Argument → Option (List ℕ)
output_of (Output path) = Some path
output_of argument = None

-- an argument asks for the order by cum
abbrev pub is_by_cum : Argument → Bool
is_by_cum ByCum = true
is_by_cum argument = false

-- a pattern, where it isn't empty
abbrev pub nonempty : List ℕ → Option (List ℕ)
nonempty [] = None
nonempty (byte ∷ bytes) = Some (byte ∷ bytes)

-- the pattern that an argument adds to focus
abbrev pub focus_of : Argument → Option (List ℕ)
focus_of (Focus pattern) = nonempty pattern
focus_of argument = None

-- the pattern that an argument adds to ignore
abbrev pub ignore_of : Argument → Option (List ℕ)
ignore_of (Ignore pattern) = nonempty pattern
ignore_of argument = None

-- patterns as one: `|` stands between each two
abbrev pub one_pattern : List (List ℕ) → List ℕ
one_pattern patterns = join_with_byte 124 patterns

-- What arguments ask for together: the last number and the last path count, and patterns add up.
abbrev pub narrowing : List Argument → Narrowing
narrowing args = record {
  rows = last_or None (filter_map rows_of args);
  by_cum = list_any is_by_cum args;
  focus = one_pattern (filter_map focus_of args);
  ignore = one_pattern (filter_map ignore_of args);
  output = last_or None (filter_map output_of args);
}

-- what words narrow a command to, where they have no fault
abbrev pub together : Result (List Argument) LineFault → Result Narrowing LineFault
together (Err fault) = Err fault
together (Ok args) = Ok (narrowing args)
