-- For the crates above: a valid profile's texts begin with the empty one.
use Rattle.std.proofs.Common.{◌≡◌, ℕ, ◌<◌, Bool, true, false, List, [], ◌∷◌, ◌++◌, length, get_or, None, refl, sym, arith}
use Rattle.std.specs.Prelude.{nat_lt}
use Rattle.std.proofs.lemmas.Bool.{false≢true, true≢false, lt-ltb}
use Rattle.std.proofs.lemmas.Option.{none-some}
use Rattle.pp_model.specs.declared.profile.Profile.{Profile}
use Rattle.pp_model.specs.Lookup.{text_at}
use Rattle.pp_model.specs.Rules.{NoRuleFails, begins_empty, zero_unless}

-- a rule that fails nowhere
pub no_fault : (b : Bool) → zero_unless b ≡ None → b ≡ true
no_fault true h = refl
no_fault false h = absurd (none-some 0 (sym h))

-- there is a first text
pub some_text : (texts : List (List ℕ)) → begins_empty texts ≡ true → 0 < length texts
some_text [] is = absurd (true≢false (sym is))
some_text (t ∷ texts) is = omega arith

-- there is a first text, by a test
pub has_text : (texts : List (List ℕ)) → begins_empty texts ≡ true → nat_lt 0 (length texts) ≡ true
has_text [] is = absurd (false≢true is)
has_text (text ∷ texts) is = lt-ltb 0 (length (text ∷ texts)) (omega arith)

-- the first text is empty
pub first_empty : (texts : List (List ℕ)) → begins_empty texts ≡ true → get_or texts 0 [] ≡ []
first_empty [] is = absurd (true≢false (sym is))
first_empty ([] ∷ texts) is = refl
first_empty ((b ∷ bs) ∷ texts) is = absurd (true≢false (sym is))

-- texts that begin with the empty one, and more behind them
pub begins_then : (texts more : List (List ℕ)) → begins_empty texts ≡ true → begins_empty (texts ++ more) ≡ true
begins_then [] more h = absurd (true≢false (sym h))
begins_then ([] ∷ texts) more h = refl
begins_then ((b ∷ bs) ∷ texts) more h = absurd (true≢false (sym h))

-- text 0 of a valid profile is empty
pub text_zero : (p : Profile) → NoRuleFails p → text_at p 0 ≡ []
text_zero p valid = first_empty p.text (no_fault (begins_empty p.text) valid.text_zero)
