-- For the crates above: what truth values tell.
use Rattle.std.proofs.Common.{◌≡◌, Bool, true, false, T, ◌||◌, Option, Some, None, refl, sym}
use Rattle.std.specs.Option.{is_some}
use Rattle.std.proofs.lemmas.Bool.{false≢true}

-- truth values that follow from each other are the same
pub same_bool : (a b : Bool) → (a ≡ true → b ≡ true) → (b ≡ true → a ≡ true) → a ≡ b
same_bool true true f g = refl
same_bool true false f g = sym (f refl)
same_bool false true f g = g refl
same_bool false false f g = refl

-- what is shown is true
pub is_true : (b : Bool) → T b → b ≡ true
is_true true t = refl
is_true false t = absurd t

-- what follows from either of two tests
pub either : {P : Type 0} (a b : Bool) → (a || b) ≡ true → (a ≡ true → P) → (b ≡ true → P) → P
either true b e f g = f refl
either false b e f g = g e

-- what is found of a unit is told by whether it is found
pub marked : (o p : Option (Unit {0})) → is_some o ≡ is_some p → o ≡ p
marked None None e = refl
marked None (Some u) e = absurd (false≢true e)
marked (Some u) None e = absurd (false≢true (sym e))
marked (Some u) (Some v) e = refl
