-- A text that grew.
use Rattle.std.specs.Prelude.{◌≡◌, List, ℕ, length, take}

-- the old text stands at the front of the new one
abbrev pub Grew : List ℕ → List ℕ → Type 0
Grew old new = take (length old) new ≡ old
