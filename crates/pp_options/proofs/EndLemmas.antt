-- Texts without what stands at their end.
use Rattle.std.proofs.Common.{◌≡◌, ℕ, Bool, true, false, List, [], ◌∷◌, ◌++◌, refl, ap, ◌∙◌}
use Rattle.pp_options.specs.Ends.{with_byte, without_end}

-- a last byte that passes goes
pub push_yes : (test : ℕ → Bool) (xs : List ℕ) (x : ℕ) → test x ≡ true → without_end test (xs ++ x ∷ []) ≡ without_end test xs
push_yes test [] x passes = rw passes refl
push_yes test (y ∷ ys) x passes = ap (with_byte test y) (push_yes test ys x passes)

-- a byte before a last one stays
before_last : (test : ℕ → Bool) (y : ℕ) (ys : List ℕ) (x : ℕ) → with_byte test y (ys ++ x ∷ []) ≡ y ∷ (ys ++ x ∷ [])
before_last test y [] x = refl
before_last test y (z ∷ zs) x = refl

-- a text stays whole whose last byte does not pass
pub push_no : (test : ℕ → Bool) (xs : List ℕ) (x : ℕ) → test x ≡ false → without_end test (xs ++ x ∷ []) ≡ xs ++ x ∷ []
push_no test [] x fails = rw fails refl
push_no test (y ∷ ys) x fails = ap (with_byte test y) (push_no test ys x fails) ∙ before_last test y ys x
