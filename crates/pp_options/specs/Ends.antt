-- Texts without what stands at their end.
use Rattle.std.specs.Prelude.{ℕ, Bool, List, [], ◌∷◌, if◌then◌else◌}

-- a byte before those that are left after it; where none is left it goes too, if it passes
abbrev pub with_byte : (ℕ → Bool) → ℕ → List ℕ → List ℕ
with_byte test byte [] = if test byte then [] else byte ∷ []
with_byte test byte (next ∷ bytes) = byte ∷ next ∷ bytes

-- the bytes up to the last that does not pass
abbrev pub without_end : (ℕ → Bool) → List ℕ → List ℕ
without_end test [] = []
without_end test (byte ∷ bytes) = with_byte test byte (without_end test bytes)
