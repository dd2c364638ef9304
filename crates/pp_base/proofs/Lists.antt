-- For the crates above: what holds of each item, and lists that are filtered, mapped or added to.
use Rattle.std.proofs.Common.{◌≡◌, ◌+◌, Bool, true, false, cond, ◌&&◌, List, [], ◌∷◌, ◌++◌, map, All, Option, Some, None, refl, sym, ap, subst, arith}
use Rattle.std.specs.List.{AllByRecursion, cons_option, filter, last_or}
use Rattle.std.specs.Option.{option_or}
use Rattle.std.proofs.lemmas.List.{append-nil, get_or-map, length-map}
use Rattle.pp_base.specs.Front.{IsFront}

-- what holds of each item and of one more
pub all_push : {A : Type 0} (P : A → Type 0) (xs : List A) (x : A) → AllByRecursion P xs → P x → AllByRecursion P (xs ++ x ∷ [])
all_push P [] x all p = (p, tt)
all_push P (y ∷ ys) x all p = (all.0, all_push P ys x all.1 p)

-- what holds of each item of two lists
pub all_append : {A : Type 0} (P : A → Type 0) (xs ys : List A) → AllByRecursion P xs → AllByRecursion P ys → AllByRecursion P (xs ++ ys)
all_append P [] ys first second = second
all_append P (x ∷ xs) ys first second = (first.0, all_append P xs ys first.1 second)

-- what follows from what holds of each item
pub all_by : {A : Type 0} (P Q : A → Type 0) → ((x : A) → P x → Q x) → (xs : List A) → AllByRecursion P xs → AllByRecursion Q xs
all_by P Q f [] all = tt
all_by P Q f (x ∷ xs) all = (f x all.0, all_by P Q f xs all.1)

-- what holds of each image
pub all_of_map : {A B : Type 0} (P : B → Type 0) (f : A → B) (xs : List A) → All P (map f xs) → All (λ x. P (f x)) xs
all_of_map P f xs all = λ k d within.
    subst P (get_or-map f xs k d (f d) within) (all k (f d) (omega (arith, within, length-map xs f)))

-- functions that agree on each item of a list
pub map_agree : {A B : Type 0} (f g : A → B) (xs : List A) → AllByRecursion (λ x. f x ≡ g x) xs → map f xs ≡ map g xs
map_agree f g [] all = refl
map_agree f g (x ∷ xs) all = (λ j. all.0 j ∷ map_agree f g xs all.1 j)

-- two filters are one
pub filter-both : {X : Type 0} (p q : X → Bool) (xs : List X) → filter p (filter q xs) ≡ filter (λ x. q x && p x) xs
filter-both p q [] = refl
filter-both p q (x ∷ xs) = elim (q x) as (λ b. filter p (cond b (x ∷ filter q xs) (filter q xs)) ≡ cond (b && p x) (x ∷ filter (λ y. q y && p y) xs) (filter (λ y. q y && p y) xs)) [
  | true ↦ ap (λ l. cond (p x) (x ∷ l) l) (filter-both p q xs)
  | false ↦ filter-both p q xs
]

-- the last of a list, with an item more or none
pub last_push : {A : Type 0} (known : Option A) (xs : List A) (o : Option A) → last_or known (xs ++ cons_option o []) ≡ option_or o (last_or known xs)
last_push known [] None = refl
last_push known [] (Some x) = refl
last_push known (y ∷ ys) o = last_push (Some y) ys o

-- a list is its own front
pub own_front : {X : Type 0} (xs : List X) → IsFront xs xs
own_front xs = ([], sym (append-nil xs))
