-- Sums over the samples of a report.
use Rattle.std.proofs.Common.{◌≡◌, ◌≤◌, Bool, true, false, cond, not, ◌&&◌, ◌||◌, ℤ, pos, ◌+ℤ◌, ◌+◌, nat_abs, List, [], ◌∷◌, ◌++◌, Option, refl, sym, ap, ◌∙◌, arith}
use Rattle.std.specs.Prelude.{◌≤ℤ◌}
use Rattle.std.specs.List.{AllByRecursion, IsDistinct, filter, filter_map, list_any}
use Rattle.std.specs.List.Sorted.{IsPermutation}
use Rattle.std.specs.Option.{option_map_or}
use Rattle.std.specs.Ordering.{eq_by_cmp, int_eq}
use Rattle.std.specs.Cmp.{IsTotalOrder}
use Rattle.std.specs.declared.cmp.Ordering.{Ordering}
use Rattle.std.proofs.lemmas.Bool.{false≢true, and_parts, not-false, or_right}
use Rattle.std.proofs.lemmas.Bool.Decides.{Decides-int_eq}
use Rattle.std.proofs.lemmas.Cmp.{eq_by_cmp_equiv}
use Rattle.std.proofs.lemmas.Int.{ints}
use Rattle.std.proofs.lemmas.List.Sums.{sum_by-cons}
use Rattle.pp_base.proofs.Booleans.{either}
use Rattle.pp_base.proofs.Sums.{triangle}
use Rattle.pp_count.specs.Sums.{Seen, weighed, absolute, sum_where, has, leads, occurs, flat}
use Rattle.pp_count.specs.EdgeSums.{stands_over, has_pair, has_edge}
use Rattle.pp_laws.specs.Figures.{has_frames, whole, NoneNegative}
use Rattle.pp_laws.proofs.IntSums.{sum_over, sum_none, sum_plus, sum-filter, sum-filter_map, sum_permuted, one_match}

-- what a sample adds to the sum of those that pass
abbrev pub part : {K : Type 0} → (List K → Bool) → Seen K → ℤ
part p s = cond (p s.keys) s.value (pos 0)

pub sum_where_is : {K : Type 0} (p : List K → Bool) (ss : List (Seen K)) → sum_where p ss ≡ sum_over (part p) ss
sum_where_is p [] = refl
sum_where_is p (s ∷ ss) = ap (λ v. part p s +ℤ v) (sum_where_is p ss)

pub sum_where-append : {K : Type 0} (p : List K → Bool) (ss ts : List (Seen K)) → sum_where p (ss ++ ts) ≡ sum_where p ss +ℤ sum_where p ts
sum_where-append p [] ts = omega (arith, ints)
sum_where-append p (s ∷ ss) ts = omega (arith, ints, sum_where-append p ss ts)

pub sum_where_permuted : {K : Type 0} (p : List K → Bool) (ss ts : List (Seen K)) → IsPermutation ss ts → sum_where p ts ≡ sum_where p ss
sum_where_permuted p ss ts moved = sum_where_is p ts ∙ sum_permuted (part p) ss ts moved ∙ sym (sum_where_is p ss)

of_zero : (b : Bool) (v : ℤ) → v ≡ pos 0 → cond b v (pos 0) ≡ pos 0
of_zero true v is = is
of_zero false v is = refl

is_zero : (v : ℤ) → not (int_eq v (pos 0)) ≡ false → v ≡ pos 0
is_zero v zero = (Decides-int_eq v (pos 0)).0 (not-false _ zero)

-- samples of value 0 add nothing
pub sum_where-weighed : {K : Type 0} (p : List K → Bool) (ss : List (Seen K)) → sum_where p (weighed ss) ≡ sum_where p ss
sum_where-weighed p ss =
    sum_where_is p (weighed ss)
    ∙ sum-filter (part p) (λ s. not (int_eq s.value (pos 0))) ss (λ s zero. of_zero (p s.keys) s.value (is_zero s.value zero))
    ∙ sym (sum_where_is p ss)

-- the sum over what is seen of some items, as one over the items
pub sum_seen : {X Y : Type 0} (test : List Y → Bool) (g : X → Option (Seen Y)) (xs : List X)
    → sum_where test (weighed (filter_map g xs)) ≡ sum_over (λ x. option_map_or (part test) (g x) (pos 0)) xs
sum_seen test g xs = sum_where-weighed test (filter_map g xs) ∙ sum_where_is test (filter_map g xs) ∙ sum-filter_map (part test) g xs

-- a sum of what isn't negative
pub sum_where_above : {K : Type 0} (p : List K → Bool) (ss : List (Seen K)) → NoneNegative ss → pos 0 ≤ℤ sum_where p ss
sum_where_above p [] none = omega (arith, ints)
sum_where_above p (s ∷ ss) none =
    let first : pos 0 ≤ℤ s.value = none.0 in
    elim (p s.keys) as (λ b. pos 0 ≤ℤ (cond b s.value (pos 0) +ℤ sum_where p ss)) [
      | true ↦ omega (arith, ints, first, sum_where_above p ss none.1)
      | false ↦ omega (arith, ints, sum_where_above p ss none.1)
    ]

part_within : (a b : Bool) (v : ℤ) → (a ≡ true → b ≡ true) → pos 0 ≤ℤ v → cond a v (pos 0) ≤ℤ cond b v (pos 0)
part_within true true v more above = omega (arith, ints)
part_within true false v more above = absurd (false≢true (more refl))
part_within false true v more above = above
part_within false false v more above = omega (arith, ints)

-- a test that fewer samples pass has the lesser sum
pub sum_where_within : {K : Type 0} (p q : List K → Bool) → ((ks : List K) → p ks ≡ true → q ks ≡ true) → (ss : List (Seen K)) → NoneNegative ss
    → sum_where p ss ≤ℤ sum_where q ss
sum_where_within p q more [] none = omega (arith, ints)
sum_where_within p q more (s ∷ ss) none =
    let first : part p s ≤ℤ part q s = part_within (p s.keys) (q s.keys) s.value (more s.keys) none.0 in
    omega (arith, ints, first, sum_where_within p q more ss none.1)

-- a test that all samples pass has the whole sum
pub sum_where_all : {K : Type 0} (p : List K → Bool) (ss : List (Seen K)) → AllByRecursion (λ s. p s.keys ≡ true) ss → sum_where p ss ≡ whole ss
sum_where_all p [] all = refl
sum_where_all p (s ∷ ss) all = λ i. cond (all.0 i) s.value (pos 0) +ℤ sum_where_all p ss all.1 i

-- samples of value 0 make nothing negative
pub none_weighed : {K : Type 0} (ss : List (Seen K)) → NoneNegative ss → NoneNegative (weighed ss)
none_weighed [] none = tt
none_weighed (s ∷ ss) none = elim (not (int_eq s.value (pos 0))) as (λ b. NoneNegative (cond b (s ∷ weighed ss) (weighed ss))) [
  | true ↦ (none.0, none_weighed ss none.1)
  | false ↦ none_weighed ss none.1
]

-- no sum is further from 0 than all values together
pub sum_where_bound : {K : Type 0} (p : List K → Bool) (ss : List (Seen K)) → nat_abs (sum_where p ss) ≤ absolute ss
sum_where_bound p [] = omega arith
sum_where_bound p (s ∷ ss) =
    let whole_is : absolute (s ∷ ss) ≡ nat_abs s.value + absolute ss = sum_by-cons (λ t. nat_abs t.value) s ss in
    elim (p s.keys) as (λ b. nat_abs (cond b s.value (pos 0) +ℤ sum_where p ss) ≤ absolute (s ∷ ss)) [
      | true ↦ omega (arith, triangle s.value (sum_where p ss), sum_where_bound p ss, whole_is)
      | false ↦ omega (arith, triangle (pos 0) (sum_where p ss), sum_where_bound p ss, whole_is)
    ]

module _ {K : Type 0} (order : K → K → Ordering) where
  -- the leaf's key is one of the keys
  pub leads_has : (k : K) (ks : List K) → leads order k ks ≡ true → has order k ks ≡ true
  leads_has k [] is = is
  leads_has k (q ∷ ks) is = ap (λ b. b || has order k ks) is

  has-filter : (kept : K → Bool) (k : K) (ks : List K) → has order k (filter kept ks) ≡ true → has order k ks ≡ true
  has-filter kept k [] is = is
  has-filter kept k (q ∷ ks) is =
      elim (kept q) as (λ b. has order k (cond b (q ∷ filter kept ks) (filter kept ks)) ≡ true → (eq_by_cmp order k q || has order k ks) ≡ true) [
        | true ↦ λ found. either (eq_by_cmp order k q) (has order k (filter kept ks)) found
            (λ here. ap (λ b. b || has order k ks) here)
            (λ later. or_right (eq_by_cmp order k q) (has order k ks) (has-filter kept k ks later))
        | false ↦ λ found. or_right (eq_by_cmp order k q) (has order k ks) (has-filter kept k ks found)
      ] is

  over_caller : (a b under : K) (ks : List K) → stands_over order a b under ks ≡ true → has order a ks ≡ true
  over_caller a b under [] is = is
  over_caller a b under (k ∷ ks) is = either (eq_by_cmp order a k && eq_by_cmp order b under) (stands_over order a b k ks) is
      (λ here. ap (λ c. c || has order a ks) (and_parts _ _ here).0)
      (λ later. or_right (eq_by_cmp order a k) (has order a ks) (over_caller a b k ks later))

  over_callee : (a b under : K) (ks : List K) → stands_over order a b under ks ≡ true → has order b (under ∷ ks) ≡ true
  over_callee a b under [] is = absurd (false≢true is)
  over_callee a b under (k ∷ ks) is = either (eq_by_cmp order a k && eq_by_cmp order b under) (stands_over order a b k ks) is
      (λ here. ap (λ c. c || has order b (k ∷ ks)) (and_parts _ _ here).1)
      (λ later. or_right (eq_by_cmp order b under) (has order b (k ∷ ks)) (over_callee a b k ks later))

  pair_caller : (a b : K) (ks : List K) → has_pair order a b ks ≡ true → has order a ks ≡ true
  pair_caller a b [] is = is
  pair_caller a b (k ∷ ks) is = or_right (eq_by_cmp order a k) (has order a ks) (over_caller a b k ks is)

  pair_callee : (a b : K) (ks : List K) → has_pair order a b ks ≡ true → has order b ks ≡ true
  pair_callee a b [] is = is
  pair_callee a b (k ∷ ks) is = over_callee a b k ks is

  -- the ends of an edge are keys of each sample that has it
  pub edge_caller : (kept : K → Bool) (a b : K) (ks : List K) → has_edge order kept a b ks ≡ true → has order a ks ≡ true
  edge_caller kept a b ks is = has-filter kept a ks (pair_caller a b (filter kept ks) (and_parts _ _ is).1)

  pub edge_callee : (kept : K → Bool) (a b : K) (ks : List K) → has_edge order kept a b ks ≡ true → has order b ks ≡ true
  edge_callee kept a b ks is = has-filter kept b ks (pair_callee a b (filter kept ks) (and_parts _ _ is).1)

module _ {K : Type 0} {order : K → K → Ordering} (o : IsTotalOrder order) where
  -- a sample's value is in the flat of one key, its leaf's
  one_leaf : (s : Seen K) (keys : List K) → IsDistinct (eq_by_cmp order) keys
      → ((k : K) → has order k s.keys ≡ true → list_any (eq_by_cmp order k) keys ≡ true)
      → sum_over (λ k. part (leads order k) s) keys ≡ part has_frames s
  one_leaf s keys apart known =
      elim s.keys as (λ ks. ((k : K) → has order k ks ≡ true → list_any (eq_by_cmp order k) keys ≡ true)
      → sum_over (λ k. cond (leads order k ks) s.value (pos 0)) keys ≡ cond (has_frames ks) s.value (pos 0)) [
        | [] ↦ λ h. sum_none keys
        | q ∷ ks ↦ λ h. one_match (eq_by_cmp_equiv o) s.value q keys apart (h q (ap (λ b. b || has order q ks) ((eq_by_cmp_equiv o).refl q)))
      ] known

  -- the flats of keys that are told apart, and among which each key is
  pub flats_add_up : (ss : List (Seen K)) (keys : List K) → IsDistinct (eq_by_cmp order) keys
      → ((k : K) → occurs order ss k ≡ true → list_any (eq_by_cmp order k) keys ≡ true)
      → sum_over (flat order ss) keys ≡ sum_where has_frames ss
  flats_add_up [] keys apart known = sum_none keys
  flats_add_up (s ∷ ss) keys apart known =
      sum_plus (λ k. part (leads order k) s) (flat order ss) keys
      ∙ (λ i. one_leaf s keys apart (λ k is. known k (ap (λ b. b || occurs order ss k) is)) i
      +ℤ flats_add_up ss keys apart (λ k is. known k (or_right (has order k s.keys) (occurs order ss k) is)) i)
