-- What it means that a plain text is found.
use Rattle.std.proofs.Common.{◌≡◌, ◌++◌, ◌∷◌, [], ℕ, List, true, ◌||◌, length, drop, refl, ap, ◌∙◌, ⊎_elim, arith}
use Rattle.std.specs.Prelude.{nat_eq}
use Rattle.std.specs.List.{starts_with}
use Rattle.std.specs.Bool.{Decides}
use Rattle.std.proofs.Math.Bool.{or-true}
use Rattle.std.proofs.lemmas.Bool.{or_cases}
use Rattle.std.proofs.lemmas.Bool.Decides.{Decides-eqb}
use Rattle.std.proofs.lemmas.Slice.Eq.{starts_is}
use Rattle.pp_base.specs.Judges.{occurs_in, StandsIn}

-- a subject that begins with the pattern
begins : (pattern subject : List ℕ) → starts_with nat_eq subject pattern ≡ true → subject ≡ pattern ++ drop (length pattern) subject
begins pattern subject = (starts_is Decides-eqb subject pattern (starts_with nat_eq subject pattern) refl).0

-- the converse
begun : (pattern subject rest : List ℕ) → subject ≡ pattern ++ rest → starts_with nat_eq subject pattern ≡ true
begun pattern subject = (starts_is Decides-eqb subject pattern (starts_with nat_eq subject pattern) refl).1

-- where the pattern was found, it stands
stands : (pattern subject : List ℕ) → occurs_in pattern subject ≡ true → StandsIn pattern subject
stands pattern [] found = ([], drop (length pattern) [], begins pattern [] found)
stands pattern (b ∷ bs) found =
    ⊎_elim (λ here. ([], drop (length pattern) (b ∷ bs), begins pattern (b ∷ bs) here))
    (λ later. let at : StandsIn pattern bs = stands pattern bs later in (b ∷ at.0, at.1, ap (λ l. b ∷ l) at.2))
    (or_cases (starts_with nat_eq (b ∷ bs) pattern) (occurs_in pattern bs) found)

-- where it stands, it is found
found_at : (pattern subject front rest : List ℕ) → subject ≡ front ++ pattern ++ rest → occurs_in pattern subject ≡ true
found_at pattern [] [] rest is = begun pattern [] rest is
found_at pattern [] (c ∷ cs) rest is = absurd (omega (arith, ap length is))
found_at pattern (b ∷ bs) [] rest is = ap (λ here. here || occurs_in pattern bs) (begun pattern (b ∷ bs) rest is)
found_at pattern (b ∷ bs) (c ∷ cs) rest is =
    ap (λ later. starts_with nat_eq (b ∷ bs) pattern || later) (found_at pattern bs cs rest (ap (drop 1) is))
    ∙ or-true (starts_with nat_eq (b ∷ bs) pattern)

-- a pattern is found exactly where it stands
pub occurs_where : (pattern subject : List ℕ) → Decides (occurs_in pattern subject) (StandsIn pattern subject)
occurs_where pattern subject = (stands pattern subject, λ at. found_at pattern subject at.0 at.1 at.2)
