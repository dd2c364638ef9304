-- Sums by key numbers are the sums by the keys that the numbers stand for.
use Rattle.std.proofs.Common.{◌≡◌, ℕ, ◌<◌, Bool, true, false, cond, ◌||◌, pos, ◌+ℤ◌, List, [], ◌∷◌, ◌++◌, map, All, refl, sym, ap, ◌∙◌, arith}
use Rattle.std.specs.List.{list_any}
use Rattle.std.specs.Ordering.{nat_cmp, eq_by_cmp}
use Rattle.std.specs.Cmp.{unsigned_tied}
use Rattle.std.specs.declared.cmp.Ordering.{Ordering}
use Rattle.std.proofs.lemmas.Bool.{false≢true, eqb-true, eq-eqb}
use Rattle.std.proofs.lemmas.List.{map-append}
use Rattle.std.proofs.lemmas.List.Elements.{All-head, All-tail}
use Rattle.std.proofs.lemmas.List.Folds.{list_any-append}
use Rattle.pp_base.proofs.Booleans.{same_bool}
use Rattle.pp_count.specs.Sums.{Seen, all_keys, renamed, has, leads, occurs, cum, flat}

-- a number ties with another where they are the same
pub tied_is : (m k : ℕ) → eq_by_cmp nat_cmp m k ≡ true → m ≡ k
tied_is m k e = eqb-true m k (sym (unsigned_tied m k) ∙ e)

-- what passes stands among numbers with the same members
found_equal : (p : ℕ → Bool) (x : ℕ) (ys : List ℕ) → p x ≡ true → list_any (eq_by_cmp nat_cmp x) ys ≡ true → list_any p ys ≡ true
found_equal p x [] px found = absurd (false≢true found)
found_equal p x (y ∷ ys) px found =
    elim (eq_by_cmp nat_cmp x y) as (λ b. eq_by_cmp nat_cmp x y ≡ b → (b || list_any (eq_by_cmp nat_cmp x) ys) ≡ true → (p y || list_any p ys) ≡ true) [
      | true ↦ λ e _. ap (λ b. b || list_any p ys) (ap p (sym (tied_is x y e)) ∙ px)
      | false ↦ λ _ later. ap (λ b. p y || b) (found_equal p x ys px later) ∙ or_true (p y)
    ] refl found where
      or_true : (a : Bool) → (a || true) ≡ true
      or_true true = refl
      or_true false = refl

found_in : (p : ℕ → Bool) (xs ys : List ℕ) → ((m : ℕ) → list_any (eq_by_cmp nat_cmp m) xs ≡ true → list_any (eq_by_cmp nat_cmp m) ys ≡ true)
    → list_any p xs ≡ true → list_any p ys ≡ true
found_in p [] ys members found = absurd (false≢true found)
found_in p (x ∷ xs) ys members found =
    elim (p x) as (λ b. p x ≡ b → (b || list_any p xs) ≡ true → list_any p ys ≡ true) [
      | true ↦ λ e _. found_equal p x ys e (members x (ap (λ b. b || list_any (eq_by_cmp nat_cmp x) xs) (unsigned_tied x x ∙ eq-eqb x x refl)))
      | false ↦ λ _ later. found_in p xs ys (λ m in_xs. members m (or_later (eq_by_cmp nat_cmp m x) _ in_xs)) later
    ] refl found where
      or_later : (a b : Bool) → b ≡ true → (a || b) ≡ true
      or_later true b e = refl
      or_later false b e = e

pub same_found : (p : ℕ → Bool) (xs ys : List ℕ) → ((m : ℕ) → list_any (eq_by_cmp nat_cmp m) xs ≡ list_any (eq_by_cmp nat_cmp m) ys)
    → list_any p xs ≡ list_any p ys
same_found p xs ys members =
    same_bool _ _ (found_in p xs ys (λ m e. sym (members m) ∙ e)) (found_in p ys xs (λ m e. members m ∙ e))

pub list_any-renamed : {K : Type 0} (f : ℕ → K) (p : K → Bool) (xs : List ℕ) → list_any p (map f xs) ≡ list_any (λ m. p (f m)) xs
list_any-renamed f p [] = refl
list_any-renamed f p (x ∷ xs) = ap (λ b. p (f x) || b) (list_any-renamed f p xs)

-- a key stands among all keys where it occurs
pub all_keys_occur : {K : Type 0} (order : K → K → Ordering) (samples : List (Seen K)) (k : K) → list_any (eq_by_cmp order k) (all_keys samples) ≡ occurs order samples k
all_keys_occur order [] k = refl
all_keys_occur order (s ∷ samples) k =
    list_any-append (eq_by_cmp order k) s.keys (all_keys samples) ∙ ap (λ b. has order k s.keys || b) (all_keys_occur order samples k)

-- all keys of the samples are below n
abbrev pub AllBelow : ℕ → List (Seen ℕ) → Type 0
AllBelow n ss = All (λ s. All (λ m. m < n) s.keys) ss

below_n : (n m : ℕ) (ks : List ℕ) → All (λ k. k < n) ks → has nat_cmp m ks ≡ true → m < n
below_n n m [] below found = absurd (false≢true found)
below_n n m (k ∷ ks) below found =
    elim (eq_by_cmp nat_cmp m k) as (λ b. eq_by_cmp nat_cmp m k ≡ b → (b || has nat_cmp m ks) ≡ true → m < n) [
      | true ↦ λ e _. omega (arith, tied_is m k e, All-head (λ j. j < n) k ks below)
      | false ↦ λ _ later. below_n n m ks (All-tail (λ j. j < n) k ks below) later
    ] refl found

pub occurs_below : (n m : ℕ) (ss : List (Seen ℕ)) → AllBelow n ss → occurs nat_cmp ss m ≡ true → m < n
occurs_below n m [] below found = absurd (false≢true found)
occurs_below n m (s ∷ ss) below found =
    elim (has nat_cmp m s.keys) as (λ b. has nat_cmp m s.keys ≡ b → (b || occurs nat_cmp ss m) ≡ true → m < n) [
      | true ↦ λ e _. below_n n m s.keys (All-head (λ (t : Seen ℕ). All (λ j. j < n) t.keys) s ss below) e
      | false ↦ λ _ later. occurs_below n m ss (All-tail (λ (t : Seen ℕ). All (λ j. j < n) t.keys) s ss below) later
    ] refl found

module _ {K : Type 0} (order : K → K → Ordering) (f : ℕ → K) where
  pub all_keys-renamed : (ss : List (Seen ℕ)) → all_keys (map (renamed f) ss) ≡ map f (all_keys ss)
  all_keys-renamed [] = refl
  all_keys-renamed (s ∷ ss) = ap (λ r. map f s.keys ++ r) (all_keys-renamed ss) ∙ sym (map-append f s.keys (all_keys ss))

  module _ (n : ℕ) (apart : (a b : ℕ) → a < n → b < n → eq_by_cmp order (f a) (f b) ≡ eq_by_cmp nat_cmp a b) where
    has-renamed : (k : ℕ) (ks : List ℕ) → k < n → All (λ m. m < n) ks → has order (f k) (map f ks) ≡ has nat_cmp k ks
    has-renamed k [] in_n below = refl
    has-renamed k (m ∷ ks) in_n below = λ i. apart k m in_n (All-head (λ j. j < n) m ks below) i || has-renamed k ks in_n (All-tail (λ j. j < n) m ks below) i

    leads-renamed : (k : ℕ) (ks : List ℕ) → k < n → All (λ m. m < n) ks → leads order (f k) (map f ks) ≡ leads nat_cmp k ks
    leads-renamed k [] in_n below = refl
    leads-renamed k (m ∷ ks) in_n below = apart k m in_n (All-head (λ j. j < n) m ks below)

    pub cum-renamed : (k : ℕ) (ss : List (Seen ℕ)) → k < n → AllBelow n ss → cum order (map (renamed f) ss) (f k) ≡ cum nat_cmp ss k
    cum-renamed k [] in_n below = refl
    cum-renamed k (s ∷ ss) in_n below =
        λ i. cond (has-renamed k s.keys in_n (All-head (λ (t : Seen ℕ). All (λ j. j < n) t.keys) s ss below) i) s.value (pos 0)
        +ℤ cum-renamed k ss in_n (All-tail (λ (t : Seen ℕ). All (λ j. j < n) t.keys) s ss below) i

    pub flat-renamed : (k : ℕ) (ss : List (Seen ℕ)) → k < n → AllBelow n ss → flat order (map (renamed f) ss) (f k) ≡ flat nat_cmp ss k
    flat-renamed k [] in_n below = refl
    flat-renamed k (s ∷ ss) in_n below =
        λ i. cond (leads-renamed k s.keys in_n (All-head (λ (t : Seen ℕ). All (λ j. j < n) t.keys) s ss below) i) s.value (pos 0)
        +ℤ flat-renamed k ss in_n (All-tail (λ (t : Seen ℕ). All (λ j. j < n) t.keys) s ss below) i

    pub occurs_named : (k : ℕ) (ss : List (Seen ℕ)) → k < n → AllBelow n ss → occurs order (map (renamed f) ss) (f k) ≡ occurs nat_cmp ss k
    occurs_named k [] in_n below = refl
    occurs_named k (s ∷ ss) in_n below =
        λ i. has-renamed k s.keys in_n (All-head (λ (t : Seen ℕ). All (λ j. j < n) t.keys) s ss below) i
        || occurs_named k ss in_n (All-tail (λ (t : Seen ℕ). All (λ j. j < n) t.keys) s ss below) i
