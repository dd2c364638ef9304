-- Readers over lists of bytes: a value and the bytes after it, or what is wrong.
use Rattle.std.specs.Prelude.{◌≡◌, List, ◌++◌, ℕ, Result}

-- a value read from the front, and the bytes after it
abbrev pub Read : Type 0 → Type 0 → Type 0
Read A E = Result (A × List ℕ) E

-- the rest is what the bytes end with, behind some front
abbrev pub EndsWith : List ℕ → List ℕ → Type 0
EndsWith bytes rest = (front : List ℕ) × (bytes ≡ front ++ rest)
