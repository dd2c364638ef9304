-- Call paths of samples that add up alike.
use Rattle.std.proofs.Common.{◌≡◌, ℕ, zero, suc, ◌+◌, ◌≤◌, ℤ, pos, ◌+ℤ◌, nat_abs, Bool, true, false, cond, ◌&&◌, ◌||◌, List, [], ◌∷◌, ◌++◌, length, map, reverse, Some, None, refl, sym, ap, ◌∙◌, arith}
use Rattle.std.specs.Prelude.{flat_map}
use Rattle.std.specs.Cmp.{IsTotalOrder, nat_cmp_total}
use Rattle.std.specs.FinMap.{IsAntisymmetric}
use Rattle.std.specs.List.{AllByRecursion, cons_option, list_any}
use Rattle.std.specs.Ordering.{eq_by_cmp, then_cmp}
use Rattle.std.specs.declared.cmp.Ordering.{Ordering}
use Rattle.std.proofs.lemmas.Bool.{false≢true}
use Rattle.std.proofs.lemmas.Cmp.{eq_by_cmp_equiv, on_total, then_total, back_total}
use Rattle.std.proofs.lemmas.Int.{ints}
use Rattle.std.proofs.lemmas.List.Sums.{sum_by-cons}
use Rattle.pp_base.proofs.Lists.{all_by}
use Rattle.pp_base.proofs.Orders.{both_equal}
use Rattle.pp_count.specs.Ranks.{by_size, each_once}
use Rattle.pp_count.specs.Sums.{Seen, sum_where}
use Rattle.pp_calltree.specs.CallPaths.{CallPath, path_by, paths_below, all_paths}
use Rattle.pp_calltree.specs.CallTree.{rooted, any_path, is_end, first_key, first_keys, all_lengths, below_key, under, path_cum, path_flat, sibling_order, siblings}
use Rattle.pp_graph.proofs.Listed.{each_once_members, each_once_same}

-- Whatever is asked of keys, the samples that pass add up to the same, and one passes in both or in neither.
pub record AddUpAlike {K : Type 0} (a b : List (Seen K)) : Type 0 where
  pub sums : (test : List K → Bool) → sum_where test a ≡ sum_where test b
  pub some : (test : List K → Bool) → list_any (λ s. test s.keys) a ≡ list_any (λ s. test s.keys) b

module _ {K : Type 0} where
  sum_rooted : (test : List K → Bool) (ss : List (Seen K)) → sum_where test (map rooted ss) ≡ sum_where (λ ks. test (reverse ks)) ss
  sum_rooted test [] = refl
  sum_rooted test (s ∷ ss) = ap (λ sum. cond (test (reverse s.keys)) s.value (pos 0) +ℤ sum) (sum_rooted test ss)

  some_rooted : (test : List K → Bool) (ss : List (Seen K)) → list_any (λ s. test s.keys) (map rooted ss) ≡ list_any (λ s. test (reverse s.keys)) ss
  some_rooted test [] = refl
  some_rooted test (s ∷ ss) = ap (λ b. test (reverse s.keys) || b) (some_rooted test ss)

  -- so they do with their keys root first
  pub rooted_alike : {a b : List (Seen K)} → AddUpAlike a b → AddUpAlike (map rooted a) (map rooted b)
  rooted_alike {a} {b} alike = record {
    sums = λ test. sum_rooted test a ∙ alike.sums (λ ks. test (reverse ks)) ∙ sym (sum_rooted test b);
    some = λ test. some_rooted test a ∙ alike.some (λ ks. test (reverse ks)) ∙ sym (some_rooted test b);
  }

  -- a test of the first key
  abbrev first_passes : (K → Bool) → List K → Bool
  first_passes test [] = false
  first_passes test (k ∷ ks) = test k

  some_first : (test : K → Bool) (ss : List (Seen K)) → list_any test (first_keys ss) ≡ list_any (λ s. first_passes test s.keys) ss
  some_first test [] = refl
  some_first test (s ∷ ss) = by s.keys (some_first test ss)
    where
      by : (ks : List K) → list_any test (first_keys ss) ≡ list_any (λ t. first_passes test t.keys) ss
          → list_any test (cons_option (first_key ks) (first_keys ss)) ≡ (first_passes test ks || list_any (λ t. first_passes test t.keys) ss)
      by [] rest = rest
      by (k ∷ ks) rest = ap (λ b. test k || b) rest

  -- no sample has more keys
  abbrev AtMost : ℕ → List (Seen K) → Type 0
  AtMost n ss = AllByRecursion (λ s. length s.keys ≤ n) ss

  within_all : (ss : List (Seen K)) → AtMost (all_lengths ss) ss
  within_all [] = tt
  within_all (s ∷ ss) =
      let whole : all_lengths (s ∷ ss) ≡ length s.keys + all_lengths ss = sum_by-cons (λ (t : Seen K). length t.keys) s ss in
      (omega (arith, whole), all_by (λ (t : Seen K). length t.keys ≤ all_lengths ss) (λ t. length t.keys ≤ all_lengths (s ∷ ss)) (λ t within. omega (arith, within, whole)) ss (within_all ss))

  none_first : (ss : List (Seen K)) → AtMost 0 ss → first_keys ss ≡ []
  none_first [] short = refl
  none_first (s ∷ ss) short = by s.keys short.0 (none_first ss short.1)
    where
      by : (ks : List K) → length ks ≤ 0 → first_keys ss ≡ [] → cons_option (first_key ks) (first_keys ss) ≡ []
      by [] here rest = rest
      by (k ∷ ks) here rest = absurd (omega (arith, here))

module _ {K : Type 0} {order : K → K → Ordering} (o : IsTotalOrder order) (ties : IsAntisymmetric order) where
  -- a test of the keys behind the first, which has to be this one
  abbrev below_passes : K → (List K → Bool) → List K → Bool
  below_passes k test [] = false
  below_passes k test (q ∷ ks) = eq_by_cmp order k q && test ks

  sum_under : (k : K) (test : List K → Bool) (ss : List (Seen K)) → sum_where test (under order k ss) ≡ sum_where (below_passes k test) ss
  sum_under k test [] = refl
  sum_under k test (s ∷ ss) = by s.keys (sum_under k test ss)
    where
      by : (ks : List K) → sum_where test (under order k ss) ≡ sum_where (below_passes k test) ss
          → sum_where test (cons_option (below_key order k s.value ks) (under order k ss)) ≡ cond (below_passes k test ks) s.value (pos 0) +ℤ sum_where (below_passes k test) ss
      by [] rest = omega (arith, ints, rest)
      by (q ∷ ks) rest = elim (eq_by_cmp order k q) as (λ e. sum_where test (cons_option (cond e (Some (record { value = s.value; keys = ks })) None) (under order k ss))
          ≡ cond (e && test ks) s.value (pos 0) +ℤ sum_where (below_passes k test) ss) [
            | true ↦ ap (λ sum. cond (test ks) s.value (pos 0) +ℤ sum) rest
            | false ↦ omega (arith, ints, rest)
          ]

  some_under : (k : K) (test : List K → Bool) (ss : List (Seen K)) → list_any (λ s. test s.keys) (under order k ss) ≡ list_any (λ s. below_passes k test s.keys) ss
  some_under k test [] = refl
  some_under k test (s ∷ ss) = by s.keys (some_under k test ss)
    where
      by : (ks : List K) → list_any (λ t. test t.keys) (under order k ss) ≡ list_any (λ t. below_passes k test t.keys) ss
          → list_any (λ t. test t.keys) (cons_option (below_key order k s.value ks) (under order k ss)) ≡ (below_passes k test ks || list_any (λ t. below_passes k test t.keys) ss)
      by [] rest = rest
      by (q ∷ ks) rest = elim (eq_by_cmp order k q) as (λ e. list_any (λ t. test t.keys) (cons_option (cond e (Some (record { value = s.value; keys = ks })) None) (under order k ss))
          ≡ ((e && test ks) || list_any (λ t. below_passes k test t.keys) ss)) [
            | true ↦ ap (λ b. test ks || b) rest
            | false ↦ rest
          ]

  short_under : (k : K) (n : ℕ) (ss : List (Seen K)) → AtMost (suc n) ss → AtMost n (under order k ss)
  short_under k n [] short = tt
  short_under k n (s ∷ ss) short = by s.keys short.0 (short_under k n ss short.1)
    where
      by : (ks : List K) → length ks ≤ suc n → AtMost n (under order k ss) → AtMost n (cons_option (below_key order k s.value ks) (under order k ss))
      by [] here rest = rest
      by (q ∷ ks) here rest = elim (eq_by_cmp order k q) as (λ e. AtMost n (cons_option (cond e (Some (record { value = s.value; keys = ks })) None) (under order k ss))) [
        | true ↦ (omega (arith, here), rest)
        | false ↦ rest
      ]

  order_total : (ss : List (Seen K)) → IsTotalOrder (sibling_order order ss)
  order_total ss =
      then_total
      (then_total (back_total (on_total (λ k. nat_abs (path_cum order ss k)) nat_cmp_total)) (back_total (on_total (λ k. nat_abs (path_flat order ss k)) nat_cmp_total)))
      o

  order_ties : (ss : List (Seen K)) → IsAntisymmetric (sibling_order order ss)
  order_ties ss x y e = ties x y (both_equal _ _ e).1

  module _ {a b : List (Seen K)} (alike : AddUpAlike a b) where
    under_alike : (k : K) → AddUpAlike (under order k a) (under order k b)
    under_alike k = record {
      sums = λ test. sum_under k test a ∙ alike.sums (below_passes k test) ∙ sym (sum_under k test b);
      some = λ test. some_under k test a ∙ alike.some (below_passes k test) ∙ sym (some_under k test b);
    }

    cums_alike : (k : K) → path_cum order a k ≡ path_cum order b k
    cums_alike k = (under_alike k).sums any_path

    flats_alike : (k : K) → path_flat order a k ≡ path_flat order b k
    flats_alike k = (under_alike k).sums is_end

    siblings_alike : siblings order a ≡ siblings order b
    siblings_alike =
        each_once_same (order_total a) (order_ties a) (first_keys a) (first_keys b)
        (λ k. some_first (eq_by_cmp (sibling_order order a) k) a ∙ alike.some (first_passes (eq_by_cmp (sibling_order order a) k)) ∙ sym (some_first (eq_by_cmp (sibling_order order a) k) b))
        ∙ (λ i. each_once (then_cmp (then_cmp (by_size (λ k. cums_alike k i)) (by_size (λ k. flats_alike k i))) order) (first_keys b))

  -- nothing lists nothing
  none_listed : (ss : List (Seen K)) → each_once (sibling_order order ss) [] ≡ []
  none_listed ss = by (each_once (sibling_order order ss) []) (each_once_members (order_total ss) [])
    where
      by : (ks : List K) → ((k : K) → list_any (eq_by_cmp (sibling_order order ss) k) ks ≡ false) → ks ≡ []
      by [] none = refl
      by (k ∷ ks) none =
          absurd (false≢true (sym (none k) ∙ ap (λ b. b || list_any (eq_by_cmp (sibling_order order ss) k) ks) ((eq_by_cmp_equiv (order_total ss)).refl k)))

  no_siblings : (ss : List (Seen K)) → AtMost 0 ss → siblings order ss ≡ []
  no_siblings ss short = ap (each_once (sibling_order order ss)) (none_first ss short) ∙ none_listed ss

  -- paths of samples without keys
  no_paths : (m : ℕ) (above : List K) (ss : List (Seen K)) → siblings order ss ≡ [] → paths_below order m above ss ≡ []
  no_paths zero above ss none = refl
  no_paths (suc m) above ss none = ap (flat_map (λ k. path_by order above ss k ∷ paths_below order m (above ++ k ∷ []) (under order k ss))) none

  -- both go on with equal paths from the one above
  below_alike : (n m : ℕ) (above : List K) (a b : List (Seen K)) → AddUpAlike a b → AtMost n a → AtMost m b → paths_below order n above a ≡ paths_below order m above b
  below_alike zero m above a b alike short short_there = sym (no_paths m above b (sym (siblings_alike alike) ∙ no_siblings a short))
  below_alike (suc n) zero above a b alike short short_there = no_paths (suc n) above a (siblings_alike alike ∙ no_siblings b short_there)
  below_alike (suc n) (suc m) above a b alike short short_there =
      let rest : (k : K) → paths_below order n (above ++ k ∷ []) (under order k a) ≡ paths_below order m (above ++ k ∷ []) (under order k b) =
      λ k. below_alike n m (above ++ k ∷ []) (under order k a) (under order k b) (under_alike alike k) (short_under k n a short) (short_under k m b short_there) in
      λ i. flat_map (λ k. record { keys = above ++ k ∷ []; sum = flats_alike alike k i } ∷ rest k i) (siblings_alike alike i)

  -- Samples that add up alike have the same paths.
  pub all_paths_alike : {a b : List (Seen K)} → AddUpAlike a b → all_paths order a ≡ all_paths order b
  all_paths_alike {a} {b} alike = below_alike (all_lengths a) (all_lengths b) [] a b alike (within_all a) (within_all b)
