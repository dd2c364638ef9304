use Rattle.std.proofs.Common.{◌≡◌, ℕ, Bool, true, false, cond, List, [], ◌∷◌, refl, ap, ◌∙◌, rules}
use Rattle.std.specs.Char.{is_ascii_digit}
use Rattle.std.specs.List.{list_all, take_while}
use Rattle.std.proofs.lemmas.List.Sums.{take_while-cons}
use Rattle.pp_units.proofs.range.split_digits.Goals as goal

kept : (test : ℕ → Bool) (x : ℕ) (xs : List ℕ) (b : Bool) → test x ≡ b → list_all test xs ≡ true → list_all test (cond b (x ∷ xs) []) ≡ true
kept test x xs true e h = rw e h
kept test x xs false e h = refl

-- all that is taken passes
taken : (test : ℕ → Bool) (xs : List ℕ) → list_all test (take_while test xs) ≡ true
taken test [] = refl
taken test (x ∷ xs) =
    ap (list_all test) (take_while-cons test x xs) ∙ kept test x (take_while test xs) (test x) refl (taken test xs)

pub returns-clause-all : goal.returns-clause-all
returns-clause-all c =
    let front : c.split_at.result.0.now ≡ take_while is_ascii_digit c.args.text.now = search rules in
    rw front (taken is_ascii_digit c.args.text.now)
