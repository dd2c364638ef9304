-- Fronts of lists.
use Rattle.std.specs.Prelude.{◌≡◌, ◌++◌, List}

-- the first list is the front of the second
abbrev pub IsFront : {A : Type 0} → List A → List A → Type 0
IsFront {A} part whole = (rest : List A) × (whole ≡ part ++ rest)
