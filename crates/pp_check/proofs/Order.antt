-- The first fault of a list of faults, in two parts.
use Rattle.std.proofs.Common.{◌≡◌, List, [], ◌∷◌, ◌++◌, refl}
use Rattle.std.specs.Prelude.{Option, Some, None}
use Rattle.pp_check.specs.declared.fault.TableFault.{TableFault}
use Rattle.pp_check.specs.Finds.{first_fault_of}

-- where the first faults are none, those after them decide
pub decided_after : (os more : List (Option TableFault)) → first_fault_of os ≡ None → first_fault_of (os ++ more) ≡ first_fault_of more
decided_after [] more none = refl
decided_after (None ∷ os) more none = decided_after os more none
decided_after (Some f ∷ os) more none = cc

-- a fault among the first ones decides
pub decided_in_front : (os more : List (Option TableFault)) (f : TableFault) → first_fault_of os ≡ Some f → first_fault_of (os ++ more) ≡ Some f
decided_in_front [] more f found = cc
decided_in_front (None ∷ os) more f found = decided_in_front os more f found
decided_in_front (Some g ∷ os) more f found = found
