-- What equal items as one keep when each item is described in another way, and where items stand.
use Rattle.std.proofs.Common.{◌≡◌, ℕ, ◌+◌, ◌≤◌, Bool, true, false, true≢false, cond, ◌||◌, not, List, [], ◌∷◌, ◌++◌, map, length, length-append, refl, sym, ap, ◌∙◌, if◌then◌else◌, arith}
use Rattle.std.proofs.lemmas.List.{map-append}
use Rattle.std.proofs.lemmas.List.Sums.{fold-append}
use Rattle.std.specs.List.{list_any, AllByRecursion, IsDistinct}
use Rattle.std.specs.Cmp.{IsEquivalence}
use Rattle.pp_base.proofs.Lists.{all_push, all_by, map_agree}
use Rattle.pp_model.specs.FirstSight.{seen_with, seen_after, distinct, place_of, numbers, ids}

-- Where a description tells apart exactly what the other equality tells apart, on the items that are spoken of.
module _ {A B : Type 0} (one : A → A → Bool) (other : B → B → Bool) (describe : A → B) (P : A → Type 0)
    (agree : (a b : A) → P a → P b → other (describe a) (describe b) ≡ one a b) where
  pub any-map : (x : A) → P x → (xs : List A) → AllByRecursion P xs → list_any (other (describe x)) (map describe xs) ≡ list_any (one x) xs
  any-map x p [] all = refl
  any-map x p (y ∷ ys) all = (λ j. agree x y p all.0 j || any-map x p ys all.1 j)

  -- an item stands where its description stands
  pub place-map : (x : A) → P x → (xs : List A) → AllByRecursion P xs → place_of other (map describe xs) (describe x) ≡ place_of one xs x
  place-map x p [] all = refl
  place-map x p (y ∷ ys) all = (λ j. cond (not (agree x y p all.0 j)) (1 + place-map x p ys all.1 j) 0)

  pub seen_with-map : (x : A) → P x → (xs : List A) → AllByRecursion P xs → seen_with other (map describe xs) (describe x) ≡ map describe (seen_with one xs x)
  seen_with-map x p xs all = ap (λ b. if b then map describe xs else map describe xs ++ describe x ∷ []) (any-map x p xs all) ∙ by (list_any (one x) xs)
    where
      by : (b : Bool) → (if b then map describe xs else map describe xs ++ describe x ∷ []) ≡ map describe (if b then xs else xs ++ x ∷ [])
      by true = refl
      by false = sym (map-append describe xs (x ∷ []))

  pub all-seen_with : (x : A) → P x → (xs : List A) → AllByRecursion P xs → AllByRecursion P (seen_with one xs x)
  all-seen_with x p xs all = by (list_any (one x) xs)
    where
      by : (b : Bool) → AllByRecursion P (if b then xs else xs ++ x ∷ [])
      by true = all
      by false = all_push P xs x all p

  pub seen_after-map : (seen xs : List A) → AllByRecursion P seen → AllByRecursion P xs → seen_after other (map describe seen) (map describe xs) ≡ map describe (seen_after one seen xs)
  seen_after-map seen [] s all = refl
  seen_after-map seen (x ∷ xs) s all =
      ap (λ l. seen_after other l (map describe xs)) (seen_with-map x all.0 seen s)
      ∙ seen_after-map (seen_with one seen x) xs (all-seen_with x all.0 seen s) all.1

  pub all-seen_after : (seen xs : List A) → AllByRecursion P seen → AllByRecursion P xs → AllByRecursion P (seen_after one seen xs)
  all-seen_after seen [] s all = s
  all-seen_after seen (x ∷ xs) s all = all-seen_after (seen_with one seen x) xs (all-seen_with x all.0 seen s) all.1

  -- the distinct descriptions are the descriptions of the distinct items
  pub distinct-map : (xs : List A) → AllByRecursion P xs → distinct other (map describe xs) ≡ map describe (distinct one xs)
  distinct-map xs all = seen_after-map [] xs tt all

any-append : {A : Type 0} (p : A → Bool) (xs ys : List A) → list_any p xs ≡ true → list_any p (xs ++ ys) ≡ true
any-append p [] ys h = absurd (true≢false (sym h))
any-append p (x ∷ xs) ys h = by (p x) (any-append p xs ys) h
  where
    by : (b : Bool) → (list_any p xs ≡ true → list_any p (xs ++ ys) ≡ true) → (b || list_any p xs) ≡ true → (b || list_any p (xs ++ ys)) ≡ true
    by true rest is = refl
    by false rest is = rest is

any-last : {A : Type 0} (p : A → Bool) (xs : List A) (x : A) → p x ≡ true → list_any p (xs ++ x ∷ []) ≡ true
any-last p [] x h = ap (λ b. b || false) h
any-last p (y ∷ ys) x h = by (p y) (any-last p ys x h)
  where
    by : (b : Bool) → list_any p (ys ++ x ∷ []) ≡ true → (b || list_any p (ys ++ x ∷ [])) ≡ true
    by true rest = refl
    by false rest = rest

-- Numbers that were given stay as they are.
module _ {A : Type 0} (same : A → A → Bool) where
  -- the item is among those seen
  abbrev pub IsSeen : List A → A → Type 0
  IsSeen seen x = list_any (same x) seen ≡ true

  pub place-append : (seen more : List A) (x : A) → IsSeen seen x → place_of same (seen ++ more) x ≡ place_of same seen x
  place-append [] more x h = absurd (true≢false (sym h))
  place-append (y ∷ ys) more x h = by (same x y) (place-append ys more x) h
    where
      by : (b : Bool) → (IsSeen ys x → place_of same (ys ++ more) x ≡ place_of same ys x) → (b || list_any (same x) ys) ≡ true
          → cond (not b) (1 + place_of same (ys ++ more) x) 0 ≡ cond (not b) (1 + place_of same ys x) 0
      by true rest is = refl
      by false rest is = ap (λ n. 1 + n) (rest is)

  pub seen-seen_with : (seen : List A) (x y : A) → IsSeen seen y → IsSeen (seen_with same seen x) y
  seen-seen_with seen x y h = by (list_any (same x) seen)
    where
      by : (b : Bool) → IsSeen (if b then seen else seen ++ x ∷ []) y
      by true = h
      by false = any-append (same y) seen (x ∷ []) h

  pub place-seen_with : (seen : List A) (x y : A) → IsSeen seen y → place_of same (seen_with same seen x) y ≡ place_of same seen y
  place-seen_with seen x y h = by (list_any (same x) seen)
    where
      by : (b : Bool) → place_of same (if b then seen else seen ++ x ∷ []) y ≡ place_of same seen y
      by true = refl
      by false = place-append seen (x ∷ []) y h

  -- and those that are seen later
  pub seen-seen_after : (seen xs : List A) (y : A) → IsSeen seen y → IsSeen (seen_after same seen xs) y
  seen-seen_after seen [] y h = h
  seen-seen_after seen (x ∷ xs) y h = seen-seen_after (seen_with same seen x) xs y (seen-seen_with seen x y h)

  -- and those that are numbered keep their numbers
  pub place-seen_after : (seen xs : List A) (y : A) → IsSeen seen y → place_of same (seen_after same seen xs) y ≡ place_of same seen y
  place-seen_after seen [] y h = refl
  place-seen_after seen (x ∷ xs) y h = place-seen_after (seen_with same seen x) xs y (seen-seen_with seen x y h) ∙ place-seen_with seen x y h

  module _ (same_self : (x : A) → same x x ≡ true) where
    place_new : (seen : List A) (x : A) → place_of same (seen ++ x ∷ []) x ≡ place_of same seen x
    place_new [] x = ap (λ b. cond (not b) 1 0) (same_self x)
    place_new (y ∷ ys) x = (λ j. cond (not (same x y)) (1 + place_new ys x j) 0)

    -- an item has its number before it is added
    pub place_when_seen : (seen : List A) (x : A) → place_of same (seen_with same seen x) x ≡ place_of same seen x
    place_when_seen seen x = by (list_any (same x) seen)
      where
        by : (b : Bool) → place_of same (if b then seen else seen ++ x ∷ []) x ≡ place_of same seen x
        by true = refl
        by false = place_new seen x

    pub seen_now : (seen : List A) (x : A) → IsSeen (seen_with same seen x) x
    seen_now seen x = by (list_any (same x) seen) refl
      where
        by : (b : Bool) → list_any (same x) seen ≡ b → IsSeen (if b then seen else seen ++ x ∷ []) x
        by true is = is
        by false is = any-last (same x) seen x (same_self x)

    pub all_seen : (seen xs : List A) → AllByRecursion (IsSeen (seen_after same seen xs)) xs
    all_seen seen [] = tt
    all_seen seen (x ∷ xs) = (
      seen-seen_after (seen_with same seen x) xs x (seen_now seen x),
      all_seen (seen_with same seen x) xs,
    )

    pub distinct_push : (xs : List A) (x : A) → distinct same (xs ++ x ∷ []) ≡ seen_with same (distinct same xs) x
    distinct_push xs x = fold-append (seen_with same) [] xs (x ∷ [])

    -- the next item gets its place among those seen before it, and the numbers before stay
    pub numbers_push : (xs : List A) (x : A) → numbers same (xs ++ x ∷ []) ≡ numbers same xs ++ place_of same (distinct same xs) x ∷ []
    numbers_push xs x =
        ap (λ d. map (place_of same d) (xs ++ x ∷ [])) (distinct_push xs x)
        ∙ map-append (place_of same (seen_with same (distinct same xs) x)) xs (x ∷ [])
        ∙ (λ j. map_agree (place_of same (seen_with same (distinct same xs) x)) (place_of same (distinct same xs)) xs
        (all_by (IsSeen (distinct same xs)) _ (λ y. place-seen_with (distinct same xs) x y) xs (all_seen [] xs)) j
        ++ place_when_seen (distinct same xs) x j ∷ [])

-- Distinct items are distinct.
module _ {A : Type 0} (same : A → A → Bool) (laws : IsEquivalence same) where
  -- no item is the same as one that isn't among them
  pub none_same : (x : A) (xs : List A) → list_any (same x) xs ≡ false → AllByRecursion (λ y. same y x ≡ false) xs
  none_same x [] none = tt
  none_same x (y ∷ ys) none = by (same x y) refl (none_same x ys) none
    where
      by : (b : Bool) → same x y ≡ b → (list_any (same x) ys ≡ false → AllByRecursion (λ z. same z x ≡ false) ys) → (b || list_any (same x) ys) ≡ false
          → AllByRecursion (λ z. same z x ≡ false) (y ∷ ys)
      by true is rest h = absurd (true≢false h)
      by false is rest h = (laws.symm y x ∙ is, rest h)

  apart_push : (xs : List A) (x : A) → IsDistinct same xs → AllByRecursion (λ y. same y x ≡ false) xs → IsDistinct same (xs ++ x ∷ [])
  unfolding IsDistinct
  apart_push [] x apart new = (tt, tt)
  apart_push (y ∷ ys) x apart new = (all_push (λ z. same y z ≡ false) ys x apart.0 new.0, apart_push ys x apart.1 new.1)

  apart_seen_with : (seen : List A) (x : A) → IsDistinct same seen → IsDistinct same (seen_with same seen x)
  apart_seen_with seen x apart = by (list_any (same x) seen) refl
    where
      by : (b : Bool) → list_any (same x) seen ≡ b → IsDistinct same (if b then seen else seen ++ x ∷ [])
      by true is = apart
      by false is = apart_push seen x apart (none_same x seen is)

  pub apart_seen_after : (seen xs : List A) → IsDistinct same seen → IsDistinct same (seen_after same seen xs)
  apart_seen_after seen [] apart = apart
  apart_seen_after seen (x ∷ xs) apart = apart_seen_after (seen_with same seen x) xs (apart_seen_with seen x apart)

  no_items : IsDistinct same []
  unfolding IsDistinct
  no_items = tt

  pub distinct_apart : (xs : List A) → IsDistinct same (distinct same xs)
  distinct_apart xs = apart_seen_after [] xs no_items

  length-seen_with : (seen : List A) (x : A) → length (seen_with same seen x) ≤ length seen + 1
  length-seen_with seen x = by (list_any (same x) seen)
    where
      by : (b : Bool) → length (if b then seen else seen ++ x ∷ []) ≤ length seen + 1
      by true = omega arith
      by false = omega (arith, length-append seen (x ∷ []))

  -- no more items than before
  length-seen_after : (seen xs : List A) → length (seen_after same seen xs) ≤ length seen + length xs
  length-seen_after seen [] = omega arith
  length-seen_after seen (x ∷ xs) = omega (arith, length-seen_after (seen_with same seen x) xs, length-seen_with seen x)

  pub length-distinct : (xs : List A) → length (distinct same xs) ≤ length xs
  length-distinct xs = omega (arith, length-seen_after [] xs)

-- The ids of items, and items told apart by keys.
module _ {A : Type 0} (same : A → A → Bool) (same_self : (x : A) → same x x ≡ true) where
  -- the next item's id is its place among those seen before it plus 1, and the ids before stay
  pub ids_push : (xs : List A) (x : A) → ids same (xs ++ x ∷ []) ≡ ids same xs ++ (place_of same (distinct same xs) x + 1) ∷ []
  ids_push xs x =
      ap (map (λ n. n + 1)) (numbers_push same same_self xs x)
      ∙ map-append (λ n. n + 1) (numbers same xs) (place_of same (distinct same xs) x ∷ [])

-- One more item where items are told apart by keys, and the first one with each key is kept.
module _ {A K : Type 0} (eq : K → K → Bool) (key : A → K) where
  -- the items have the same key
  abbrev pub alike : A → A → Bool
  alike a b = eq (key a) (key b)

  -- the keys of the items kept, the items kept, and the ids
  pub record AreFirsts (seen : List A) (keys : List K) (kept : List A) (given : List ℕ) : Type 0 where
    pub table : keys ≡ map key (distinct alike seen)
    pub kept_is : kept ≡ distinct alike seen
    pub ids_are : given ≡ ids alike seen

  pub firsts_step : (laws : IsEquivalence eq) (seen : List A) (x : A) (keys after : List K) (kept kept_after : List A) (given given_after : List ℕ) (place : ℕ) (is_new : Bool)
      → AreFirsts seen keys kept given → after ≡ seen_with eq keys (key x) → is_new ≡ not (list_any (eq (key x)) keys) → place ≡ place_of eq keys (key x)
      → kept_after ≡ (if is_new then kept ++ x ∷ [] else kept) → given_after ≡ given ++ (place + 1) ∷ []
      → AreFirsts (seen ++ x ∷ []) after kept_after given_after
  firsts_step laws seen x keys after kept kept_after given given_after place is_new was after_is new_is place_is kept_now given_now =
      let few = distinct alike seen in
      let all = all_units few in
      let same_any : list_any (eq (key x)) keys ≡ list_any (alike x) few =
      ap (list_any (eq (key x))) was.table ∙ any-map alike eq key (λ _. Unit {0}) (λ a b _ _. refl) x tt few all in
      record {
        table =
            after_is ∙ ap (λ l. seen_with eq l (key x)) was.table
            ∙ seen_with-map alike eq key (λ _. Unit {0}) (λ a b _ _. refl) x tt few all
            ∙ ap (map key) (sym (distinct_push alike (λ y. laws.refl (key y)) seen x));
        kept_is =
            kept_now ∙ (λ j. if (new_is ∙ ap not same_any) j then was.kept_is j ++ x ∷ [] else was.kept_is j)
            ∙ flipped (list_any (alike x) few) few x
            ∙ sym (distinct_push alike (λ y. laws.refl (key y)) seen x);
        ids_are =
            given_now ∙ (λ j. was.ids_are j ++ ((place_is ∙ ap (λ l. place_of eq l (key x)) was.table
            ∙ place-map alike eq key (λ _. Unit {0}) (λ a b _ _. refl) x tt few all) j + 1) ∷ [])
            ∙ sym (ids_push alike (λ y. laws.refl (key y)) seen x);
      }
    where
      all_units : (xs : List A) → AllByRecursion (λ _. Unit {0}) xs
      all_units [] = tt
      all_units (y ∷ ys) = (tt, all_units ys)

      flipped : (b : Bool) (few : List A) (y : A) → (if not b then few ++ y ∷ [] else few) ≡ (if b then few else few ++ y ∷ [])
      flipped true few y = refl
      flipped false few y = refl
