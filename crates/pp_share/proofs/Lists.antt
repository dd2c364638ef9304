-- Lists that are mapped, filtered and put together in two ways.
use Rattle.std.proofs.Common.{◌≡◌, Bool, true, false, ◌&&◌, if◌then◌else◌, filter, List, [], ◌∷◌, ◌++◌, map, Option, None, Some, refl, sym, ap, ◌∙◌}
use Rattle.std.specs.List.{AllByRecursion, filter_map, flat_map, cons_option}
use Rattle.std.specs.Option.{option_map, option_to_list}
use Rattle.std.specs.Cmp.Lexicographic.{pointwise}
use Rattle.std.proofs.lemmas.List.{map-append}
use Rattle.std.proofs.lemmas.List.Elements.{filter_map-append}

pub map_as : {A B : Type 0} (f g : A → B) (P : A → Type 0) → ((a : A) → P a → f a ≡ g a) → (xs : List A) → AllByRecursion P xs → map f xs ≡ map g xs
map_as f g P agree [] all = refl
map_as f g P agree (x ∷ xs) all = (λ j. agree x all.0 j ∷ map_as f g P agree xs all.1 j)

-- what is made of items is made of what is said of them
pub map_described : {A B C : Type 0} (f : A → C) (write : B → C) (say : A → B) (P : A → Type 0) → ((a : A) → P a → f a ≡ write (say a)) → (xs : List A) → AllByRecursion P xs
    → map f xs ≡ map write (map say xs)
map_described f write say P agree [] all = refl
map_described f write say P agree (x ∷ xs) all = (λ j. agree x all.0 j ∷ map_described f write say P agree xs all.1 j)

-- what is read of what is said of items is what their names stand for
pub flat_map_described : {A B X Y : Type 0} (read : B → List Y) (name : X → Y) (say : A → B) (names : A → List X) → ((a : A) → read (say a) ≡ map name (names a)) → (xs : List A)
    → flat_map read (map say xs) ≡ map name (flat_map names xs)
flat_map_described read name say names agree [] = refl
flat_map_described read name say names agree (x ∷ xs) =
    (λ j. agree x j ++ flat_map_described read name say names agree xs j) ∙ sym (map-append name (names x) (flat_map names xs))

pub flat_map-map : {A B C : Type 0} (f : B → List C) (u : A → B) (xs : List A) → flat_map f (map u xs) ≡ flat_map (λ x. f (u x)) xs
flat_map-map f u [] = refl
flat_map-map f u (x ∷ xs) = ap (λ l. f (u x) ++ l) (flat_map-map f u xs)

-- entries that are read of what is said of items are those that their references name
pub filter_map_described : {A B X Y : Type 0} (f : B → Option Y) (read : X → Option Y) (say : A → B) (ref : A → X) → ((a : A) → f (say a) ≡ read (ref a)) → (xs : List A)
    → filter_map f (map say xs) ≡ filter_map read (flat_map (λ a. ref a ∷ []) xs)
filter_map_described f read say ref agree [] = refl
filter_map_described f read say ref agree (x ∷ xs) = (λ j. cons_option (agree x j) (filter_map_described f read say ref agree xs j))

pub flat_filter_described : {A B X Y : Type 0} (f : B → List Y) (read : X → Option Y) (say : A → B) (refs : A → List X) (P : A → Type 0) → ((a : A) → P a → f (say a) ≡ filter_map read (refs a))
    → (xs : List A) → AllByRecursion P xs → flat_map f (map say xs) ≡ filter_map read (flat_map refs xs)
flat_filter_described f read say refs P agree [] all = refl
flat_filter_described f read say refs P agree (x ∷ xs) all =
    (λ j. agree x all.0 j ++ flat_filter_described f read say refs P agree xs all.1 j) ∙ sym (filter_map-append read (refs x) (flat_map refs xs))

-- entries that references name one by one
pub each_read : {X Y : Type 0} (f : X → Y) (read : X → Option Y) (P : X → Type 0) → ((x : X) → P x → read x ≡ Some (f x)) → (xs : List X) → AllByRecursion P xs
    → map f xs ≡ filter_map read (flat_map (λ x. x ∷ []) xs)
each_read f read P agree [] all = refl
each_read f read P agree (x ∷ xs) all = (λ j. cons_option (sym (agree x all.0) j) (each_read f read P agree xs all.1 j))

pub all_mapped : {A B : Type 0} (Q : B → Type 0) (f : A → B) (P : A → Type 0) → ((a : A) → P a → Q (f a)) → (xs : List A) → AllByRecursion P xs → AllByRecursion Q (map f xs)
all_mapped Q f P holds [] all = tt
all_mapped Q f P holds (x ∷ xs) all = (holds x all.0, all_mapped Q f P holds xs all.1)

pub all_both : {A : Type 0} (Q : A → Type 0) (xs ys : List A) → AllByRecursion Q xs → AllByRecursion Q ys → AllByRecursion Q (xs ++ ys)
all_both Q [] ys first second = second
all_both Q (x ∷ xs) ys first second = (first.0, all_both Q xs ys first.1 second)

pub all_flat : {A B : Type 0} (Q : B → Type 0) (g : A → List B) (P : A → Type 0) → ((a : A) → P a → AllByRecursion Q (g a)) → (xs : List A) → AllByRecursion P xs → AllByRecursion Q (flat_map g xs)
all_flat Q g P holds [] all = tt
all_flat Q g P holds (x ∷ xs) all = all_both Q (g x) (flat_map g xs) (holds x all.0) (all_flat Q g P holds xs all.1)

pub option_map-same : {A : Type 0} (o : Option A) → option_map (λ x. x) o ≡ o
option_map-same None = refl
option_map-same (Some x) = refl

pub option_cons : {A : Type 0} (o : Option A) (xs : List A) → option_to_list o ++ xs ≡ cons_option o xs
option_cons None xs = refl
option_cons (Some x) xs = refl

-- lists that are told apart alike, described in two ways
pub pointwise_as : {A B C : Type 0} (one : B → B → Bool) (other : C → C → Bool) (f : A → B) (g : A → C) (P : A → Type 0)
    → ((x y : A) → P x → P y → one (f x) (f y) ≡ other (g x) (g y)) → (xs ys : List A) → AllByRecursion P xs → AllByRecursion P ys
    → pointwise one (map f xs) (map f ys) ≡ pointwise other (map g xs) (map g ys)
pointwise_as one other f g P agree [] [] p q = refl
pointwise_as one other f g P agree [] (y ∷ ys) p q = refl
pointwise_as one other f g P agree (x ∷ xs) [] p q = refl
pointwise_as one other f g P agree (x ∷ xs) (y ∷ ys) p q = (λ t. agree x y p.0 q.0 t && pointwise_as one other f g P agree xs ys p.1 q.1 t)

pub all_filter : {A : Type 0} (P : A → Type 0) (test : A → Bool) (xs : List A) → AllByRecursion P xs → AllByRecursion P (filter test xs)
all_filter P test [] all = tt
all_filter {A} P test (x ∷ xs) all = by (test x) (all_filter P test xs all.1)
  where
    by : (b : Bool) → AllByRecursion P (filter test xs) → AllByRecursion P (if b then x ∷ filter test xs else filter test xs)
    by true rest = (all.0, rest)
    by false rest = rest

-- a test of what a map leaves alone
pub filter_kept : {A B : Type 0} (p : A → Bool) (q : B → Bool) (f : A → B) → ((a : A) → q (f a) ≡ p a) → (xs : List A) → filter q (map f xs) ≡ map f (filter p xs)
filter_kept p q f same [] = refl
filter_kept {A} {B} p q f same (x ∷ xs) =
    ap (λ b. if b then f x ∷ filter q (map f xs) else filter q (map f xs)) (same x) ∙ by (p x) (filter_kept p q f same xs)
  where
    by : (b : Bool) → filter q (map f xs) ≡ map f (filter p xs)
        → (if b then f x ∷ filter q (map f xs) else filter q (map f xs)) ≡ map f (if b then x ∷ filter p xs else filter p xs)
    by true rest = ap (λ l. f x ∷ l) rest
    by false rest = rest
