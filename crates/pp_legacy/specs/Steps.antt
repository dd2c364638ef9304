-- Readings that may end with a fault of the file.
use Rattle.std.specs.Prelude.{◌≡◌, ℕ, Bool, ⊤, Option, Some, None, Result, Ok, Err, if◌then◌else◌}
use Rattle.pp_legacy.specs.declared.fault.LegacyKind.{LegacyKind}
use Rattle.pp_legacy.specs.declared.fault.LegacyFault.{LegacyFault}
use Rattle.pp_legacy.specs.declared.fault.LegacyRefusal.{LegacyRefusal}
use Rattle.pp_legacy.specs.declared.fault.LegacyRefusal.TheVariants as refusal

-- what is read, or the file's first fault
abbrev pub Reading : Type 0 → Type 0
Reading A = Result A LegacyFault

-- the fault of that kind at the word
abbrev pub fault_at : LegacyKind → ℕ → LegacyFault
fault_at kind word = record { kind = kind; word = word }

-- nothing where the test passes, else the fault of that kind at the word
abbrev pub fault_unless : Bool → LegacyKind → ℕ → Reading (Unit {0})
fault_unless passes kind word = if passes then Ok tt else Err (fault_at kind word)

-- what a function that takes memory returned, seen by view, is what reading gives: want of memory may come in place
-- of any answer
abbrev pub GivesOrMemory : {X Y : Type 0} → (X → Y) → Result X LegacyRefusal → Reading Y → Type 0
GivesOrMemory view (Ok x) read = read ≡ Ok (view x)
GivesOrMemory view (Err (refusal.Fault e)) read = read ≡ Err e
GivesOrMemory view (Err refusal.Memory) read = ⊤

-- what a search returned, seen by view, is what is found
abbrev pub FindsSeen : {X Y : Type 0} → (X → Y) → Option X → Option Y → Type 0
FindsSeen view (Some x) found = found ≡ Some (view x)
FindsSeen view None found = found ≡ None
