-- The carriage return at the end of a line.
use Rattle.std.proofs.Common.{◌≡◌, ◌++◌, ℕ, Bool, true, false, List, [], ◌∷◌, refl, ap, ◌∙◌}
use Rattle.std.specs.Prelude.{◌==◌, if◌then◌else◌}
use Rattle.pp_engine.specs.Shell.{without_return}

-- a byte before either of two texts
either_push : (test : Bool) (byte : ℕ) (xs ys : List ℕ) → byte ∷ (if test then xs else ys) ≡ (if test then byte ∷ xs else byte ∷ ys)
either_push true byte xs ys = refl
either_push false byte xs ys = refl

-- A line by its last byte.
pub without_return_push : (before : List ℕ) (last : ℕ) → without_return (before ++ last ∷ []) ≡ (if last == 13 then before else before ++ last ∷ [])
without_return_push [] last = refl
without_return_push (byte ∷ []) last = either_push (last == 13) byte [] (last ∷ [])
without_return_push (byte ∷ next ∷ before) last = ap (λ rest. byte ∷ rest) (without_return_push (next ∷ before) last) ∙ either_push (last == 13) byte (next ∷ before) (next ∷ before ++ last ∷ [])
