-- For the crates above: sums over lists, and of how far numbers are from 0.
use Rattle.std.proofs.Common.{◌≡◌, ℕ, ◌+◌, ◌≤◌, ℤ, pos, negsuc, ◌+ℤ◌, nat_abs, List, [], ◌∷◌, map, All, refl, sym, ap, ◌∙◌, arith}
use Rattle.std.specs.List.{sum_by}
use Rattle.std.proofs.lemmas.Int.{ints}
use Rattle.std.proofs.lemmas.List.Elements.{All-head, All-tail}
use Rattle.std.proofs.lemmas.List.Sums.{sum_by-cons}

-- sums of equal terms are equal
pub same_sums : {X : Type 0} (f g : X → ℕ) (xs : List X) → All (λ x. f x ≡ g x) xs → sum_by f xs ≡ sum_by g xs
same_sums f g [] all = refl
same_sums f g (x ∷ xs) all =
    sum_by-cons f x xs ∙ (λ i. All-head (λ y. f y ≡ g y) x xs all i + same_sums f g xs (All-tail (λ y. f y ≡ g y) x xs all) i)
    ∙ sym (sum_by-cons g x xs)

-- a sum of sums
pub sum_of_two : {X : Type 0} (f g : X → ℕ) (xs : List X) → sum_by (λ x. f x + g x) xs ≡ sum_by f xs + sum_by g xs
sum_of_two f g [] = refl
sum_of_two f g (x ∷ xs) =
    omega (arith, sum_of_two f g xs, sum_by-cons (λ y. f y + g y) x xs, sum_by-cons f x xs, sum_by-cons g x xs)

-- a sum of zeros
pub sum_of_none : {X : Type 0} (xs : List X) → sum_by (λ x. 0) xs ≡ 0
sum_of_none [] = refl
sum_of_none (x ∷ xs) = omega (arith, sum_of_none xs, sum_by-cons (λ y. 0) x xs)

-- a sum over items that stand for others
pub sum_by-map : {X Y : Type 0} (f : Y → ℕ) (g : X → Y) (xs : List X) → sum_by f (map g xs) ≡ sum_by (λ x. f (g x)) xs
sum_by-map f g [] = refl
sum_by-map f g (x ∷ xs) =
    sum_by-cons f (g x) (map g xs) ∙ ap (λ n. f (g x) + n) (sum_by-map f g xs) ∙ sym (sum_by-cons (λ y. f (g y)) x xs)

-- a sum is no further from 0 than its terms together
pub triangle : (a b : ℤ) → nat_abs (a +ℤ b) ≤ nat_abs a + nat_abs b
triangle a b = omega (arith, ints)

-- how far a number is above 0
pub above : ℤ → ℕ
above (pos n) = n
above (negsuc n) = 0

-- how far a number is below 0
pub below : ℤ → ℕ
below (pos n) = 0
below (negsuc n) = n + 1

-- a number is what it is above 0, less what it is below 0
pub above_below : (v : ℤ) → v +ℤ pos (below v) ≡ pos (above v)
unfolding above below
above_below (pos n) = omega (arith, ints)
above_below (negsuc n) = omega (arith, ints)
