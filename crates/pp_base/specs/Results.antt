-- Steps that give a value or end with a fault, one after another.
use Rattle.std.specs.Prelude.{◌≡◌, Result, Ok, Err}

-- what the first step gave goes into the second, and a fault ends both
infixl 10 ◌>>=◌
abbrev pub ◌>>=◌ : {A B E : Type 0} → Result A E → (A → Result B E) → Result B E
(Ok x) >>= f = f x
(Err e) >>= f = Err e

-- what a function returned, seen by view, is what the definition gives
abbrev pub Gives : {X Y E : Type 0} → (X → Y) → Result X E → Result Y E → Type 0
Gives view (Ok x) wanted = wanted ≡ Ok (view x)
Gives view (Err e) wanted = wanted ≡ Err e
