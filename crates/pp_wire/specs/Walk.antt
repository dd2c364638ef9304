-- Items that are read one after another: a list of them and an end, which is whole or one fault.
use Rattle.std.specs.Prelude.{ℕ, zero, suc, List, [], ◌∷◌, drop, length, Option, Some, None, Result, Ok, Err}
use Rattle.pp_wire.specs.declared.fault.WireKind.{WireKind}
use Rattle.pp_wire.specs.declared.fault.WireFault.{WireFault}
use Rattle.pp_wire.specs.Reading.{Read}

-- the items, and the fault that comes after them, if there is one
pub record Walk (A : Type 0) : Type 0 where
  pub items : List A
  pub fault : Option WireFault

-- what a call gives of what is left: the next item, the fault, or nothing at the end
abbrev pub next_item : {A : Type 0} → List A → Option WireFault → Option (Result A WireFault)
next_item (x ∷ items) fault = Some (Ok x)
next_item [] (Some fault) = Some (Err fault)
next_item [] None = None

-- what the next call gives: an item, the fault, or nothing at the end
abbrev pub first : {A : Type 0} → Walk A → Option (Result A WireFault)
first walk = next_item walk.items walk.fault

-- what is left behind the next item
abbrev pub rest_of : {A : Type 0} → Walk A → Walk A
rest_of walk = record { items = drop 1 walk.items; fault = walk.fault }

-- one item in front of others
abbrev pub more : {A : Type 0} → A → Walk A → Walk A
more x walk = record { items = x ∷ walk.items; fault = walk.fault }

-- the item that was read, and those that a walk finds in the bytes after it
abbrev pub and_then : {A : Type 0} → Read A WireFault → (List ℕ → Walk A) → Walk A
and_then (Ok x) walk = more x.0 (walk x.1)
and_then (Err fault) walk = record { items = []; fault = Some fault }

-- the items that a reader finds in bytes one after another, at most as many as the number says
unfoldable pub walk_in : {A : Type 0} → (List ℕ → Read A WireFault) → ℕ → List ℕ → Walk A
walk_in read zero bytes = record { items = []; fault = None }
walk_in read (suc n) [] = record { items = []; fault = None }
walk_in read (suc n) (b ∷ bytes) = and_then (read (b ∷ bytes)) (λ rest. walk_in read n rest)

-- all of them: each takes a byte at least
abbrev pub walk_of : {A : Type 0} → (List ℕ → Read A WireFault) → List ℕ → Walk A
walk_of read bytes = walk_in read (length bytes) bytes

-- what is wrong, with its place
abbrev pub placed : {A : Type 0} → ℕ → Read A WireKind → Read A WireFault
placed at (Ok x) = Ok x
placed at (Err kind) = Err (record { kind = kind; at = at })
