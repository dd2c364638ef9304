-- How the words after a command are taken, one by one. No public clause cites this file.
use Rattle.std.specs.Prelude.{◌≡◌, ℕ, ⊤, Bool, true, List, [], ◌∷◌, ◌++◌, drop, nat_le, Option, Some, None, Result, Ok, Err, if◌then◌else◌}
use Rattle.pp_shell.specs.declared.fault.LineFault.{LineFault}
use Rattle.pp_shell.specs.declared.fault.LineFault.TheVariants.{EmptyRedirect}
use Rattle.pp_shell.specs.declared.fault.LineRefusal.{LineRefusal}
use Rattle.pp_shell.specs.declared.fault.LineRefusal.TheVariants.{Fault, Memory}
use Rattle.pp_shell.specs.declared.argument.Argument.{Argument}
use Rattle.pp_shell.specs.declared.argument.Argument.TheVariants.{Rows, Output, ByCum, Ignore, Focus}
use Rattle.pp_shell.specs.declared.narrowing.Narrowing.{Narrowing}
use Rattle.pp_shell.specs.Arguments.{argument_of, is_redirect, rows_of, arguments, narrowing}

-- a pattern more, after those that are joined; the empty one adds nothing
abbrev pub with_alternative : List ℕ → List ℕ → List ℕ
with_alternative known [] = known
with_alternative [] (byte ∷ bytes) = byte ∷ bytes
with_alternative (first ∷ known) (byte ∷ bytes) = first ∷ known ++ 124 ∷ byte ∷ bytes

-- what is asked for with an argument more
abbrev pub with_argument : Narrowing → Argument → Narrowing
with_argument n (Rows rows) = record n { rows = Some rows }
with_argument n (Output path) = record n { output = Some path }
with_argument n ByCum = record n { by_cum = true }
with_argument n (Ignore pattern) = record n { ignore = with_alternative n.ignore pattern }
with_argument n (Focus pattern) = record n { focus = with_alternative n.focus pattern }

-- the file that `>` alone names: the next word
abbrev pub redirected : List (List ℕ) → Result Argument LineFault
redirected [] = Err EmptyRedirect
redirected (path ∷ words) = Ok (Output path)

-- what a word asks for, with the word after it where that is its file
abbrev pub next_argument : List ℕ → List (List ℕ) → Result Argument LineFault
next_argument word after = if is_redirect word then redirected after else argument_of word

-- how many words after the word belong to it
abbrev pub taken_after : List ℕ → List (List ℕ) → ℕ
taken_after word [] = 0
taken_after word (next ∷ words) = if is_redirect word then 1 else 0

-- the words that are left after that
abbrev pub rest_after : List ℕ → List (List ℕ) → List (List ℕ)
rest_after word after = if is_redirect word then drop 1 after else after

-- a report can show this number of rows
abbrev pub are_fair_rows : Option ℕ → Bool
are_fair_rows None = true
are_fair_rows (Some rows) = nat_le rows 2147483647

-- where the argument is a number of rows, a report can show them
abbrev pub has_fair_rows : Argument → Bool
has_fair_rows argument = are_fair_rows (rows_of argument)

-- the word asks for an argument, which was taken
pub record TookArgument (old new : Narrowing) (wanted : Result Argument LineFault) : Type 0 where
  pub argument : Argument
  pub asked : wanted ≡ Ok argument
  pub took : new ≡ with_argument old argument

-- the argument was taken, or the word has the fault, unless memory ran out
abbrev pub TakesArgument : {A : Type 0} → Narrowing → Narrowing → Result Argument LineFault
    → Result A LineRefusal → Type 0
TakesArgument old new wanted (Ok done) = TookArgument old new wanted
TakesArgument old new wanted (Err (Fault fault)) = wanted ≡ Err fault
TakesArgument old new wanted (Err Memory) = ⊤

-- arguments before others, where these have no fault
abbrev pub prepended : List Argument → Result (List Argument) LineFault
    → Result (List Argument) LineFault
prepended before (Ok args) = Ok (before ++ args)
prepended before (Err fault) = Err fault

-- what was taken of the words is all before those that are left
pub record IsNarrowing (n : Narrowing) (words left : List (List ℕ)) : Type 0 where
  pub before : List Argument
  pub split : arguments words ≡ prepended before (arguments left)
  pub has : n ≡ narrowing before
