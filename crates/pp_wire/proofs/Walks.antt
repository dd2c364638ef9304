-- A walk, an item at a time.
use Rattle.std.proofs.Common.{◌≡◌, ℕ, zero, suc, ◌<◌, ◌≤◌, List, [], ◌∷◌, length, Some, None, Ok, Err, refl, ap, ◌∙◌, arith}
use Rattle.pp_wire.specs.declared.fault.WireFault.{WireFault}
use Rattle.pp_wire.specs.Reading.{Read}
use Rattle.pp_wire.specs.Walk.{Walk, more, and_then, walk_in, walk_of}

-- each item takes a byte at least
pub record Shrinks {A : Type 0} (read : List ℕ → Read A WireFault) : Type 0 where
  pub shorter : (bytes : List ℕ) (x : A × List ℕ) → read bytes ≡ Ok x → length x.1 < length bytes

and_then_same : {A : Type 0} (r : Read A WireFault) (f g : List ℕ → Walk A) → ((x : A × List ℕ) → r ≡ Ok x → f x.1 ≡ g x.1) → and_then r f ≡ and_then r g
and_then_same (Ok x) f g same = ap (more x.0) (same x refl)
and_then_same (Err fault) f g same = refl

-- more steps than bytes change nothing
pub walk_enough : {A : Type 0} (read : List ℕ → Read A WireFault) → Shrinks read → (n m : ℕ) (bytes : List ℕ) → length bytes ≤ n → length bytes ≤ m → walk_in read n bytes ≡ walk_in read m bytes
unfolding walk_in
walk_enough read s zero zero bytes p q = refl
walk_enough read s zero (suc m) [] p q = refl
walk_enough read s zero (suc m) (b ∷ bytes) p q = absurd (omega arith)
walk_enough read s (suc n) zero [] p q = refl
walk_enough read s (suc n) zero (b ∷ bytes) p q = absurd (omega arith)
walk_enough read s (suc n) (suc m) [] p q = refl
walk_enough read s (suc n) (suc m) (b ∷ bytes) p q =
    and_then_same (read (b ∷ bytes)) (walk_in read n) (walk_in read m)
    (λ x is. let shorter = s.shorter (b ∷ bytes) x is in walk_enough read s n m x.1 (omega (arith, shorter)) (omega (arith, shorter)))

-- the item at the front, and then those of the bytes after it
pub walk_more : {A : Type 0} (read : List ℕ → Read A WireFault) → Shrinks read → (bytes : List ℕ) (x : A × List ℕ) → 0 < length bytes → read bytes ≡ Ok x → walk_of read bytes ≡ more x.0 (walk_of read x.1)
unfolding walk_in
walk_more read s [] x some is = absurd (omega arith)
walk_more {A} read s (b ∷ bytes) x some is =
    let shorter = s.shorter (b ∷ bytes) x is in
    let one : walk_of read (b ∷ bytes) ≡ more x.0 (walk_in read (length bytes) x.1) = ap (λ (r : Read A WireFault). and_then r (walk_in read (length bytes))) is in
    one ∙ ap (more x.0) (walk_enough read s (length bytes) (length x.1) x.1 (omega (arith, shorter)) (omega arith))

-- a fault at the front ends the walk
pub walk_fails : {A : Type 0} (read : List ℕ → Read A WireFault) (bytes : List ℕ) (fault : WireFault) → 0 < length bytes → read bytes ≡ Err fault → walk_of read bytes ≡ record { items = []; fault = Some fault }
unfolding walk_in
walk_fails read [] fault some is = absurd (omega arith)
walk_fails {A} read (b ∷ bytes) fault some is = ap (λ (r : Read A WireFault). and_then r (walk_in read (length bytes))) is

-- no bytes, no items
pub walk_none : {A : Type 0} (read : List ℕ → Read A WireFault) (bytes : List ℕ) → length bytes ≡ 0 → walk_of read bytes ≡ record { items = []; fault = None }
unfolding walk_in
walk_none read [] e = refl
walk_none read (b ∷ bytes) e = absurd (omega arith)

few : {A : Type 0} (r : Read A WireFault) (walk : List ℕ → Walk A) (n : ℕ) → ((bytes : List ℕ) → length (walk bytes).items ≤ n) → length (and_then r walk).items ≤ suc n
few (Ok x) walk n h = omega (arith, h x.1)
few (Err fault) walk n h = omega arith

-- no more items than steps
walk_few : {A : Type 0} (read : List ℕ → Read A WireFault) (n : ℕ) (bytes : List ℕ) → length (walk_in read n bytes).items ≤ n
unfolding walk_in
walk_few read zero bytes = omega arith
walk_few read (suc n) [] = omega arith
walk_few read (suc n) (b ∷ bytes) = few (read (b ∷ bytes)) (walk_in read n) n (walk_few read n)

-- no more items than bytes
pub length-walk_of : {A : Type 0} (read : List ℕ → Read A WireFault) (bytes : List ℕ) → length (walk_of read bytes).items ≤ length bytes
length-walk_of read bytes = walk_few read (length bytes) bytes
