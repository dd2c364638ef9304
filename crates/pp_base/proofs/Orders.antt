-- For the crates above: when two things tie.
use Rattle.std.proofs.Common.{◌≡◌, ℕ, true, refl, ◌∙◌}
use Rattle.std.specs.Cmp.{unsigned_tied}
use Rattle.std.specs.Ordering.{eq_by_cmp, is_eq, nat_cmp, ordering_then}
use Rattle.std.specs.declared.cmp.Ordering.{Ordering}
use Rattle.std.specs.declared.cmp.Ordering.TheVariants.{Less, Equal, Greater}
use Rattle.std.proofs.lemmas.Bool.{eq-eqb, false≢true}

-- two orders in turn tie only where each does
pub both_equal : (a b : Ordering) → ordering_then a b ≡ Equal → (a ≡ Equal) × (b ≡ Equal)
both_equal Less b tie = let no : ⊥ = cc in absurd no
both_equal Equal b tie = (refl, tie)
both_equal Greater b tie = let no : ⊥ = cc in absurd no

-- what an order says where it says that two tie
pub equal_is : (o : Ordering) → is_eq o ≡ true → o ≡ Equal
equal_is Less h = absurd (false≢true h)
equal_is Equal h = refl
equal_is Greater h = absurd (false≢true h)

-- equal numbers tie
pub tied_with : (a b : ℕ) → a ≡ b → eq_by_cmp nat_cmp a b ≡ true
tied_with a b same = unsigned_tied a b ∙ eq-eqb a b same
