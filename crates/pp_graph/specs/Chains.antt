-- Numbers that are linked one after the other. No public clause cites this file.
use Rattle.std.specs.Prelude.{◌≡◌, ℕ, zero, suc, ◌==◌, Bool, false, List, [], ◌∷◌, Option, Some, None}
use Rattle.std.specs.Option.{option_map_or}

-- the numbers from the first on, each after the one before it, at most as many as the number says
abbrev pub walk : (ℕ → Option ℕ) → ℕ → Option ℕ → List ℕ
walk next zero place = []
walk next (suc most) None = []
walk next (suc most) (Some e) = e ∷ walk next most (next e)

-- the number is this one
abbrev pub holds_number : Option ℕ → ℕ → Bool
holds_number place k = option_map_or (λ e. e == k) place false

module _ (next prev : ℕ → Option ℕ) where
  -- the numbers are linked one after the other, forward and back, and the last has none after it
  abbrev pub IsChain : Option ℕ → Option ℕ → List ℕ → Type 0
  IsChain before place [] = place ≡ None
  IsChain before place (e ∷ list) =
      (place ≡ Some e) × (prev e ≡ before) × IsChain (Some e) (next e) list
