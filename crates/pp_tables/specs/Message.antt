-- What a message says of its fields, and the first fault that is met when they are taken in order.
use Rattle.std.specs.Prelude.{ℕ, List, [], ◌∷◌, Option, Some, None}
use Rattle.pp_wire.specs.declared.fault.WireKind.TheVariants.{WrongKind}
use Rattle.pp_wire.specs.declared.fault.WireFault.{WireFault}
use Rattle.pp_wire.specs.Walk.{Walk}
use Rattle.pp_wire.specs.Fields.{Content, Varint, Eight, Four, Bytes, Item, fields, numbers}

-- What a field of a message is: unknown and skipped, one number, numbers packed or one by one, a run of bytes, or a
-- message. A message has faults of its own in a payload at a place.
pub data Rule : Type 0 where
  Unknown : Rule
  Scalar : Rule
  Numbers : Rule
  Run : Rule
  Nested : (List ℕ → ℕ → Option WireFault) → Rule

-- a known field of another kind
abbrev pub wrong_kind : ℕ → Option WireFault
wrong_kind at = Some (record { kind = WrongKind; at = at })

-- what is wrong with a field of that rule, whose tag is at that place
abbrev pub fault_by : Rule → Content → ℕ → Option WireFault
fault_by Unknown content at = None
fault_by Scalar (Varint n) at = None
fault_by Scalar (Eight n) at = wrong_kind at
fault_by Scalar (Four n) at = wrong_kind at
fault_by Scalar (Bytes bytes place) at = wrong_kind at
fault_by Numbers (Varint n) at = None
fault_by Numbers (Eight n) at = wrong_kind at
fault_by Numbers (Four n) at = wrong_kind at
fault_by Numbers (Bytes bytes place) at = (numbers bytes at).fault
fault_by Run (Varint n) at = wrong_kind at
fault_by Run (Eight n) at = wrong_kind at
fault_by Run (Four n) at = wrong_kind at
fault_by Run (Bytes bytes place) at = None
fault_by (Nested faults) (Varint n) at = wrong_kind at
fault_by (Nested faults) (Eight n) at = wrong_kind at
fault_by (Nested faults) (Four n) at = wrong_kind at
fault_by (Nested faults) (Bytes bytes place) at = faults bytes place

-- the fault of a field, by the rule of its number
abbrev pub fault_of : (ℕ → Rule) → Item → Option WireFault
fault_of rules item = fault_by (rules item.number) item.content item.at

-- the first, or else the second
abbrev pub or_else : Option WireFault → Option WireFault → Option WireFault
or_else (Some fault) other = Some fault
or_else None other = other

-- the first fault of the items in order, or else the one behind them
abbrev pub first_item_fault : (ℕ → Rule) → List Item → Option WireFault → Option WireFault
first_item_fault rules [] end = end
first_item_fault rules (item ∷ items) end = or_else (fault_of rules item) (first_item_fault rules items end)

-- the first fault of the fields, or else what ends them
abbrev pub walk_fault : (ℕ → Rule) → Walk Item → Option WireFault
walk_fault rules walk = first_item_fault rules walk.items walk.fault

-- the first fault of a message in bytes of which the first is at the place `base`
abbrev pub fault_in : (ℕ → Rule) → List ℕ → ℕ → Option WireFault
fault_in rules bytes base = walk_fault rules (fields bytes base)
