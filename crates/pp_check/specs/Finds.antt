-- Faults in the order in which they are looked for.
use Rattle.std.specs.Prelude.{◌≡◌, ℕ, ⊤, List, [], ◌∷◌, Option, Some, None, Result, Ok, Err, option_map}
use Rattle.pp_check.specs.declared.fault.Table.{Table}
use Rattle.pp_check.specs.declared.fault.TableFault.{TableFault}
use Rattle.pp_check.specs.declared.fault.CheckRefusal.{CheckRefusal}
use Rattle.pp_check.specs.declared.fault.CheckRefusal.TheVariants.{Fault, Memory}

-- the fault of a rule that was tried on a table, where it fails at an index
abbrev pub rule_fault : ℕ → Table → Option ℕ → Option TableFault
rule_fault rule table found =
    option_map (λ index. record { rule = rule; table = table; index = index }) found

-- the first fault that there is
abbrev pub first_fault_of : List (Option TableFault) → Option TableFault
first_fault_of [] = None
first_fault_of (None ∷ faults) = first_fault_of faults
first_fault_of (Some fault ∷ faults) = Some fault

-- A call that takes no memory answers the fault, where there is one.
abbrev pub FindsFault : {A : Type 0} → Option TableFault → Result A TableFault → Type 0
FindsFault fault (Ok done) = fault ≡ None
FindsFault fault (Err found) = fault ≡ Some found

-- A call answers the fault, where there is one, or want of memory.
abbrev pub AnswersFault : {A : Type 0} → Option TableFault → Result A CheckRefusal → Type 0
AnswersFault fault (Ok done) = fault ≡ None
AnswersFault fault (Err (Fault found)) = fault ≡ Some found
AnswersFault fault (Err Memory) = ⊤
