-- The samples under a key, by numbers and with keys written out.
use Rattle.std.proofs.Common.{◌≡◌, ℕ, ◌+◌, ◌<◌, ◌≤◌, Bool, true, false, cond, ◌||◌, nat_eq, ℤ, pos, ◌+ℤ◌, nat_abs, List, [], ◌∷◌, length, map, All, Option, Some, None, option_map, refl, sym, ap, ◌∙◌, arith}
use Rattle.std.specs.List.{cons_option, list_any, sum_by, IsDistinct, AllByRecursion}
use Rattle.std.specs.Cmp.{unsigned_tied}
use Rattle.std.proofs.lemmas.Cmp.{nat_eq_equiv}
use Rattle.std.specs.Ordering.{nat_cmp, eq_by_cmp}
use Rattle.std.specs.declared.cmp.Ordering.{Ordering}
use Rattle.std.proofs.lemmas.Bool.{false≢true}
use Rattle.std.proofs.lemmas.List.{length-map}
use Rattle.std.proofs.lemmas.List.Elements.{All-nil, All-cons, All-head, All-tail}
use Rattle.std.proofs.lemmas.List.Sums.{sum_by-cons}
use Rattle.pp_base.proofs.Sums.{triangle}
use Rattle.pp_count.specs.Sums.{Seen, sum_where, absolute, renamed}
use Rattle.pp_count.specs.Parts.{HasBelow}
use Rattle.pp_count.proofs.Renaming.{tied_is}
use Rattle.pp_calltree.specs.CallTree.{any_path, is_end, first_key, first_keys, below_key, under, path_cum, path_flat, all_lengths}

map_option : {J K : Type 0} (g : J → K) (o : Option J) (xs : List J) → map g (cons_option o xs) ≡ cons_option (option_map g o) (map g xs)
map_option g None xs = refl
map_option g (Some x) xs = refl

-- sums over samples whose keys are renamed
pub sum_where-renamed : {J K : Type 0} (f : J → K) (P : List K → Bool) (Q : List J → Bool) → ((ks : List J) → P (map f ks) ≡ Q ks) → (S : List (Seen J))
    → sum_where P (map (renamed f) S) ≡ sum_where Q S
sum_where-renamed f P Q same [] = refl
sum_where-renamed f P Q same (s ∷ S) = λ i. cond (same s.keys i) s.value (pos 0) +ℤ sum_where-renamed f P Q same S i

pub is_end-renamed : {J K : Type 0} (f : J → K) (ks : List J) → is_end (map f ks) ≡ is_end ks
is_end-renamed f [] = refl
is_end-renamed f (k ∷ ks) = refl

pub first_keys-renamed : {J K : Type 0} (f : J → K) (S : List (Seen J)) → first_keys (map (renamed f) S) ≡ map f (first_keys S)
first_keys-renamed f [] = refl
first_keys-renamed f (s ∷ S) =
    (λ i. cons_option (first_is s.keys i) (first_keys-renamed f S i)) ∙ sym (map_option f (first_key s.keys) (first_keys S)) where
      first_is : (ks : List _) → first_key (map f ks) ≡ option_map f (first_key ks)
      first_is [] = refl
      first_is (k ∷ ks) = refl

pub all_lengths-renamed : {J K : Type 0} (f : J → K) (S : List (Seen J)) → all_lengths (map (renamed f) S) ≡ all_lengths S
all_lengths-renamed f [] = refl
all_lengths-renamed f (s ∷ S) =
    sum_by-cons (λ (t : Seen _). length t.keys) (renamed f s) (map (renamed f) S) ∙ (λ i. length-map s.keys f i + all_lengths-renamed f S i)
    ∙ sym (sum_by-cons (λ (t : Seen _). length t.keys) s S)

module _ {K : Type 0} (order : K → K → Ordering) (name : ℕ → K) (n : ℕ) (apart : (a b : ℕ) → a < n → b < n → eq_by_cmp order (name a) (name b) ≡ eq_by_cmp nat_cmp a b) where
  below_key-renamed : (k : ℕ) (v : ℤ) (keys : List ℕ) → k < n → All (λ m. m < n) keys
      → below_key order (name k) v (map name keys) ≡ option_map (renamed name) (below_key nat_cmp k v keys)
  below_key-renamed k v [] in_n below = refl
  below_key-renamed k v (q ∷ path) in_n below =
      ap (λ b. cond b (Some (record { value = v; keys = map name path })) None) (apart k q in_n (All-head (λ m. m < n) q path below))
      ∙ elim (eq_by_cmp nat_cmp k q) as (λ b. cond b (Some (record { value = v; keys = map name path })) None ≡ option_map (renamed name) (cond b (Some (record { value = v; keys = path })) None)) [
        | true ↦ refl
        | false ↦ refl
      ]

  -- the samples under a key are those under its number
  pub under-renamed : (k : ℕ) (S : List (Seen ℕ)) → k < n → All (HasBelow n) S → under order (name k) (map (renamed name) S) ≡ map (renamed name) (under nat_cmp k S)
  under-renamed k [] in_n below = refl
  under-renamed k (s ∷ S) in_n below =
      (λ i. cons_option (below_key-renamed k s.value s.keys in_n (All-head (HasBelow n) s S below) i) (under-renamed k S in_n (All-tail (HasBelow n) s S below) i))
      ∙ sym (map_option (renamed name) (below_key nat_cmp k s.value s.keys) (under nat_cmp k S))

  pub path_cum-renamed : (k : ℕ) (S : List (Seen ℕ)) → k < n → All (HasBelow n) S → path_cum order (map (renamed name) S) (name k) ≡ path_cum nat_cmp S k
  path_cum-renamed k S in_n below = ap (sum_where any_path) (under-renamed k S in_n below) ∙ sum_where-renamed name any_path any_path (λ ks. refl) (under nat_cmp k S)

  pub path_flat-renamed : (k : ℕ) (S : List (Seen ℕ)) → k < n → All (HasBelow n) S → path_flat order (map (renamed name) S) (name k) ≡ path_flat nat_cmp S k
  path_flat-renamed k S in_n below = ap (sum_where is_end) (under-renamed k S in_n below) ∙ sum_where-renamed name is_end is_end (is_end-renamed name) (under nat_cmp k S)

under_one : (P Q : Seen ℕ → Type 0) → ((v : ℤ) (q : ℕ) (path : List ℕ) → P (record { value = v; keys = q ∷ path }) → Q (record { value = v; keys = path }))
    → (k : ℕ) (R : List (Seen ℕ)) → All Q R → (v : ℤ) (keys : List ℕ) → P (record { value = v; keys = keys }) → All Q (cons_option (below_key nat_cmp k v keys) R)
under_one P Q step k R rest v [] here = rest
under_one P Q step k R rest v (q ∷ path) here = elim (eq_by_cmp nat_cmp k q) as (λ b. All Q (cons_option (cond b (Some (record { value = v; keys = path })) None) R)) [
  | true ↦ All-cons Q (record { value = v; keys = path }) R (step v q path here) rest
  | false ↦ rest
]

-- what holds of the samples under a key
pub under_all : (P Q : Seen ℕ → Type 0) → ((v : ℤ) (q : ℕ) (path : List ℕ) → P (record { value = v; keys = q ∷ path }) → Q (record { value = v; keys = path }))
    → (k : ℕ) (S : List (Seen ℕ)) → All P S → All Q (under nat_cmp k S)
under_all P Q step k [] all = All-nil Q
under_all P Q step k (s ∷ S) all =
    under_one P Q step k (under nat_cmp k S) (under_all P Q step k S (All-tail P s S all)) s.value s.keys (All-head P s S all)

-- their values are within those of all samples
pub under_size : (k : ℕ) (S : List (Seen ℕ)) → absolute (under nat_cmp k S) ≤ absolute S
under_size k [] = omega arith
under_size k (s ∷ S) = omega (arith, one s.value s.keys, under_size k S, sum_by-cons size s S) where
  size : Seen ℕ → ℕ
  size t = nat_abs t.value

  one : (v : ℤ) (keys : List ℕ) → absolute (cons_option (below_key nat_cmp k v keys) (under nat_cmp k S)) ≤ nat_abs v + absolute (under nat_cmp k S)
  one v [] = omega arith
  one v (q ∷ path) = elim (eq_by_cmp nat_cmp k q) as (λ b. absolute (cons_option (cond b (Some (record { value = v; keys = path })) None) (under nat_cmp k S)) ≤ nat_abs v + absolute (under nat_cmp k S)) [
    | true ↦ omega (arith, sum_by-cons (λ (t : Seen ℕ). nat_abs t.value) (record { value = v; keys = path }) (under nat_cmp k S))
    | false ↦ omega arith
  ]

first_one : (n m : ℕ) (ks keys : List ℕ) → All (λ k. k < n) keys → (list_any (eq_by_cmp nat_cmp m) ks ≡ true → m < n)
    → list_any (eq_by_cmp nat_cmp m) (cons_option (first_key keys) ks) ≡ true → m < n
first_one n m ks [] here rest found = rest found
first_one n m ks (q ∷ path) here rest found = elim (eq_by_cmp nat_cmp m q) as (λ b. eq_by_cmp nat_cmp m q ≡ b → (b || list_any (eq_by_cmp nat_cmp m) ks) ≡ true → m < n) [
  | true ↦ λ e _. omega (arith, tied_is m q e, All-head (λ k. k < n) q path here)
  | false ↦ λ _ later. rest later
] refl found

-- a first key is a number of the names
pub first_below : (n m : ℕ) (S : List (Seen ℕ)) → All (HasBelow n) S → list_any (eq_by_cmp nat_cmp m) (first_keys S) ≡ true → m < n
first_below n m [] below found = absurd (false≢true found)
first_below n m (s ∷ S) below found =
    first_one n m (first_keys S) s.keys (All-head (HasBelow n) s S below) (first_below n m S (All-tail (HasBelow n) s S below)) found

none_one : (m : ℕ) (ks keys : List ℕ) → length keys ≤ 0 → list_any (eq_by_cmp nat_cmp m) ks ≡ false → list_any (eq_by_cmp nat_cmp m) (cons_option (first_key keys) ks) ≡ false
none_one m ks [] here rest = rest
none_one m ks (q ∷ path) here rest = absurd (omega (arith, here))

-- paths without keys have no first key
pub none_first : (m : ℕ) (S : List (Seen ℕ)) → All (λ s. length s.keys ≤ 0) S → list_any (eq_by_cmp nat_cmp m) (first_keys S) ≡ false
none_first m [] short = refl
none_first m (s ∷ S) short =
    none_one m (first_keys S) s.keys (All-head (λ (t : Seen ℕ). length t.keys ≤ 0) s S short) (none_first m S (All-tail (λ (t : Seen ℕ). length t.keys ≤ 0) s S short))

-- one number at most ties with another
none_left : (v q k : ℕ) (ks : List ℕ) → k ≡ q → AllByRecursion (λ y. nat_eq k y ≡ false) ks → sum_by (λ y. cond (eq_by_cmp nat_cmp y q) v 0) ks ≡ 0
none_left v q k [] same apart = refl
none_left v q k (y ∷ ks) same apart = omega (
  arith,
  sum_by-cons (λ z. cond (eq_by_cmp nat_cmp z q) v 0) y ks,
  ap (λ b. cond b v 0) (unsigned_tied y q ∙ nat_eq_equiv.symm y q ∙ ap (λ z. nat_eq z y) (sym same) ∙ apart.0),
  none_left v q k ks same apart.1,
)

one_at_most : (v q : ℕ) (ks : List ℕ) → IsDistinct nat_eq ks → sum_by (λ y. cond (eq_by_cmp nat_cmp y q) v 0) ks ≤ v
unfolding IsDistinct
one_at_most v q [] distinct = omega arith
one_at_most v q (k ∷ ks) distinct =
    elim (eq_by_cmp nat_cmp k q) as (λ b. eq_by_cmp nat_cmp k q ≡ b → sum_by (λ y. cond (eq_by_cmp nat_cmp y q) v 0) (k ∷ ks) ≤ v) [
      | true ↦ λ e. omega (arith, sum_by-cons (λ z. cond (eq_by_cmp nat_cmp z q) v 0) k ks, ap (λ b. cond b v 0) e, none_left v q k ks (tied_is k q e) distinct.0)
      | false ↦ λ e. omega (arith, sum_by-cons (λ z. cond (eq_by_cmp nat_cmp z q) v 0) k ks, ap (λ b. cond b v 0) e, one_at_most v q ks distinct.1)
    ] refl

sum_of_none : (ks : List ℕ) → sum_by (λ k. 0) ks ≡ 0
sum_of_none [] = refl
sum_of_none (k ∷ ks) = omega (arith, sum_of_none ks, sum_by-cons (λ (z : ℕ). 0) k ks)

sum_of_two : (f g h : ℕ → ℕ) → ((k : ℕ) → f k ≤ g k + h k) → (ks : List ℕ) → sum_by f ks ≤ sum_by g ks + sum_by h ks
sum_of_two f g h le [] = omega arith
sum_of_two f g h le (k ∷ ks) = omega (arith, le k, sum_of_two f g h le ks, sum_by-cons f k ks, sum_by-cons g k ks, sum_by-cons h k ks)

below_size : (k : ℕ) (v : ℤ) (q : ℕ) (path : List ℕ) (R : List (Seen ℕ))
    → absolute (cons_option (below_key nat_cmp k v (q ∷ path)) R) ≤ cond (eq_by_cmp nat_cmp k q) (nat_abs v) 0 + absolute R
below_size k v q path R = elim (eq_by_cmp nat_cmp k q) as (λ b. absolute (cons_option (cond b (Some (record { value = v; keys = path })) None) R) ≤ cond b (nat_abs v) 0 + absolute R) [
  | true ↦ omega (arith, sum_by-cons (λ (t : Seen ℕ). nat_abs t.value) (record { value = v; keys = path }) R)
  | false ↦ omega arith
]

part_one : (ks : List ℕ) → IsDistinct nat_eq ks → (S : List (Seen ℕ)) (v : ℤ) (keys : List ℕ)
    → sum_by (λ k. absolute (cons_option (below_key nat_cmp k v keys) (under nat_cmp k S))) ks + nat_abs (cond (is_end keys) v (pos 0) +ℤ sum_where is_end S)
    ≤ nat_abs v + (sum_by (λ k. absolute (under nat_cmp k S)) ks + nat_abs (sum_where is_end S))
part_one ks distinct S v [] = omega (arith, triangle v (sum_where is_end S))
part_one ks distinct S v (q ∷ path) = omega (
  arith,
  triangle (pos 0) (sum_where is_end S),
  one_at_most (nat_abs v) q ks distinct,
  sum_of_two (λ k. absolute (cons_option (below_key nat_cmp k v (q ∷ path)) (under nat_cmp k S))) (λ k. cond (eq_by_cmp nat_cmp k q) (nat_abs v) 0) (λ k. absolute (under nat_cmp k S))
      (λ k. below_size k v q path (under nat_cmp k S)) ks,
)

-- samples have a place under one key at most, or end
pub parted : (ks : List ℕ) → IsDistinct nat_eq ks → (S : List (Seen ℕ)) → sum_by (λ k. absolute (under nat_cmp k S)) ks + nat_abs (sum_where is_end S) ≤ absolute S
parted ks distinct [] = omega (arith, sum_of_none ks)
parted ks distinct (s ∷ S) =
    let rest : sum_by (λ k. absolute (under nat_cmp k S)) ks + nat_abs (sum_where is_end S) ≤ absolute S = parted ks distinct S in
    omega (arith, part_one ks distinct S s.value s.keys, rest, sum_by-cons (λ (t : Seen ℕ). nat_abs t.value) s S)
