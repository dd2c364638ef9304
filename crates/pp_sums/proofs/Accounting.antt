-- Callers and callees account for a key.
use Rattle.std.proofs.Common.{◌≡◌, Bool, true, false, cond, not, ◌&&◌, ◌||◌, ℤ, pos, ◌+ℤ◌, List, [], ◌∷◌, Option, Some, None, refl, sym, ap, ◌∙◌, arith}
use Rattle.std.specs.Prelude.{is_some}
use Rattle.std.specs.Bool.{Decides}
use Rattle.std.specs.List.{AllByRecursion, IsDistinct, filter, list_any}
use Rattle.std.specs.Option.{option_map_or}
use Rattle.std.specs.Ordering.{eq_by_cmp}
use Rattle.std.specs.Cmp.{IsTotalOrder}
use Rattle.std.specs.declared.cmp.Ordering.{Ordering}
use Rattle.std.proofs.Math.IntN.{+ℤ_idl, +ℤ_idr}
use Rattle.std.proofs.lemmas.Bool.{false≢true, true≢false, or_right}
use Rattle.std.proofs.lemmas.Cmp.{eq_by_cmp_equiv}
use Rattle.std.proofs.lemmas.Int.{ints}
use Rattle.std.proofs.lemmas.Option.{none-some, same_Some}
use Rattle.pp_grain.proofs.CallerLemmas.{key_cmp_total}
use Rattle.pp_count.specs.Sums.{Seen, sum_where, has, leads, occurs, flat, cum}
use Rattle.pp_count.specs.EdgeSums.{stands_over, has_pair, has_edge, edge_sum}
use Rattle.pp_count.specs.Counted.{report_samples}
use Rattle.pp_count.proofs.Ties.{key_decides}
use Rattle.pp_graph.specs.Trim.{all_report_keys}
use Rattle.pp_laws.proofs.IntSums.{sum_over, sum_none, sum_plus, sum_same, one_match}
use Rattle.pp_laws.proofs.Sampling.{part}
use Rattle.pp_sums.specs.Callers.{comes_again, recurs, roots, EdgesAccount}
use Rattle.pp_sums.proofs.Parts.{rows_apart, rows_known}

and_none : (b : Bool) → (b && false) ≡ false
and_none true = refl
and_none false = refl

or_none : (b : Bool) → (b || false) ≡ b
or_none true = refl
or_none false = refl

and_all : (b : Bool) → (b && true) ≡ b
and_all true = refl
and_all false = refl

-- what is left out with c is no part of what holds without it
skipped : (c x y : Bool) → (c ≡ false → x ≡ false) → (not c && (x || y)) ≡ (not c && y)
skipped true x y gone = refl
skipped false x y gone = ap (λ t. t || y) (gone refl)

-- what only holds without c
without : (c z : Bool) → (z ≡ true → c ≡ false) → (not c && z) ≡ z
without true true apart = absurd (true≢false (apart refl))
without true false apart = refl
without false z apart = refl

-- the first alone, where the other holds only with c
first_alone : (c x y : Bool) → (not c && y) ≡ false → (x ≡ true → c ≡ false) → (not c && (x || y)) ≡ x
first_alone true true y none apart = absurd (true≢false (apart refl))
first_alone true false y none apart = refl
first_alone false x y none apart = ap (λ t. x || t) none ∙ or_none x

added : (a b c d x y : ℤ) → a +ℤ c ≡ x → b +ℤ d ≡ y → (a +ℤ b) +ℤ (c +ℤ d) ≡ x +ℤ y
added a b c d x y first second = omega (arith, ints, first, second)

module _ {K : Type 0} {order : K → K → Ordering} (o : IsTotalOrder order) (decides : (a b : K) → Decides (eq_by_cmp order a b) (a ≡ b)) where
  abbrev same : K → K → Bool
  same = eq_by_cmp order

  is_same : (k q : K) → same k q ≡ true → k ≡ q
  is_same k q is = (decides k q).0 is

  -- two keys of which one is k and the other isn't
  other : (a k q : K) → same k q ≡ false → same a q ≡ true → same a k ≡ false
  other a k q apart is = by (same a k) refl
    where
      by : (b : Bool) → same a k ≡ b → b ≡ false
      by true one = absurd (false≢true (sym apart ∙ (decides k q).1 (sym (is_same a k one) ∙ is_same a q is)))
      by false one = refl

  -- the first of these keys that isn't k
  abbrev above : K → List K → Option K
  above k [] = None
  above k (q ∷ ks) = cond (same k q) (above k ks) (Some q)

  -- the key that stands above k, where k stands once, or several times in a row
  abbrev caller : K → List K → Option K
  caller k [] = None
  caller k (q ∷ ks) = cond (same k q) (above k ks) (caller k ks)

  -- the last key before k, where this key stands in front
  abbrev below : K → K → List K → Option K
  below k under [] = None
  below k under (q ∷ ks) = cond (same k q) (Some under) (below k q ks)

  -- the key that stands below k, where k stands once, or several times in a row
  abbrev callee : K → List K → Option K
  callee k [] = None
  callee k (q ∷ ks) = cond (same k q) None (below k q ks)

  -- no key is called by k, or calls it, where k isn't
  not_over : (k a under : K) (ks : List K) → same k under ≡ false → has order k ks ≡ false → stands_over order a k under ks ≡ false
  not_over k a under [] apart none = refl
  not_over k a under (q ∷ ks) apart none =
      elim (same k q) as (λ b. same k q ≡ b → (b || has order k ks) ≡ false → ((same a q && same k under) || stands_over order a k q ks) ≡ false) [
        | true ↦ λ here gone. absurd (true≢false gone)
        | false ↦ λ here gone. (λ i. (same a q && apart i) || not_over k a q ks here gone i) ∙ ap (λ b. b || false) (and_none (same a q))
      ] refl none

  not_under : (k b under : K) (ks : List K) → has order k ks ≡ false → stands_over order k b under ks ≡ false
  not_under k b under [] none = refl
  not_under k b under (q ∷ ks) none =
      elim (same k q) as (λ t. (t || has order k ks) ≡ false → ((t && same b under) || stands_over order k b q ks) ≡ false) [
        | true ↦ λ gone. absurd (true≢false gone)
        | false ↦ λ gone. not_under k b q ks gone
      ] none

  -- Behind a frame of k a key is its caller where it is the first that isn't k.
  called_in_run : (k a under : K) (ks : List K) → same k under ≡ true → comes_again order k ks ≡ false
      → (not (same a k) && stands_over order a k under ks) ≡ option_map_or (same a) (above k ks) false
  called_in_run k a under [] run alone = and_none (not (same a k))
  called_in_run k a under (q ∷ ks) run alone =
      elim (same k q) as (λ b. same k q ≡ b → cond b (comes_again order k ks) (has order k ks) ≡ false
      → (not (same a k) && ((same a q && same k under) || stands_over order a k q ks)) ≡ option_map_or (same a) (cond b (above k ks) (Some q)) false) [
        | true ↦ λ here rest.
            skipped (same a k) (same a q && same k under) (stands_over order a k q ks)
            (λ apart. ap (λ t. t && same k under) (ap (same a) (sym (is_same k q here)) ∙ apart))
            ∙ called_in_run k a q ks here rest
        | false ↦ λ here rest.
            (λ i. not (same a k) && ((same a q && run i) || not_over k a q ks here rest i))
            ∙ ap (λ t. not (same a k) && t) (or_none (same a q && true) ∙ and_all (same a q))
            ∙ without (same a k) (same a q) (other a k q here)
      ] refl alone

  called_is : (k a : K) (ks : List K) → recurs order k ks ≡ false → (not (same a k) && has_pair order a k ks) ≡ option_map_or (same a) (caller k ks) false
  called_is k a [] alone = and_none (not (same a k))
  called_is k a (q ∷ ks) alone =
      elim (same k q) as (λ b. same k q ≡ b → cond b (comes_again order k ks) (recurs order k ks) ≡ false
      → (not (same a k) && stands_over order a k q ks) ≡ option_map_or (same a) (cond b (above k ks) (caller k ks)) false) [
        | true ↦ λ here rest. called_in_run k a q ks here rest
        | false ↦ λ here rest. ap (λ t. not (same a k) && t) (moved ks here) ∙ called_is k a ks rest
      ] refl alone
    where
      moved : (rs : List K) → same k q ≡ false → stands_over order a k q rs ≡ has_pair order a k rs
      moved [] apart = refl
      moved (r ∷ rs) apart = ap (λ t. t || stands_over order a k r rs) (ap (λ t. same a r && t) apart ∙ and_none (same a r))

  apart_from : (k b under : K) → same k under ≡ true → same k b ≡ false → same b under ≡ false
  apart_from k b under run apart = by (same b under) refl
    where
      by : (t : Bool) → same b under ≡ t → t ≡ false
      by true one = absurd (false≢true (sym apart ∙ (decides k b).1 (is_same k under run ∙ sym (is_same b under one))))
      by false one = refl

  -- Behind a frame of k it calls none but itself.
  none_in_run : (k b under : K) (ks : List K) → same k under ≡ true → comes_again order k ks ≡ false → (not (same k b) && stands_over order k b under ks) ≡ false
  none_in_run k b under [] run alone = and_none (not (same k b))
  none_in_run k b under (q ∷ ks) run alone =
      elim (same k q) as (λ t. same k q ≡ t → cond t (comes_again order k ks) (has order k ks) ≡ false
      → (not (same k b) && ((t && same b under) || stands_over order k b q ks)) ≡ false) [
        | true ↦ λ here rest.
            skipped (same k b) (same b under) (stands_over order k b q ks)
            (λ apart. apart_from k b under run apart)
            ∙ none_in_run k b q ks here rest
        | false ↦ λ here rest. ap (λ t. not (same k b) && t) (not_under k b q ks rest) ∙ and_none (not (same k b))
      ] refl alone

  -- In front of the frames of k a key is its callee where it is the last.
  calls_from : (k b under : K) (ks : List K) → same k under ≡ false → recurs order k ks ≡ false
      → (not (same k b) && stands_over order k b under ks) ≡ option_map_or (same b) (below k under ks) false
  calls_from k b under [] apart alone = and_none (not (same k b))
  calls_from k b under (q ∷ ks) apart alone =
      elim (same k q) as (λ t. same k q ≡ t → cond t (comes_again order k ks) (recurs order k ks) ≡ false
      → (not (same k b) && ((t && same b under) || stands_over order k b q ks)) ≡ option_map_or (same b) (cond t (Some under) (below k q ks)) false) [
        | true ↦ λ here rest.
            first_alone (same k b) (same b under) (stands_over order k b q ks) (none_in_run k b q ks here rest)
            (λ one. ap (same k) (is_same b under one) ∙ apart)
        | false ↦ λ here rest. calls_from k b q ks here rest
      ] refl alone

  calls_is : (k b : K) (ks : List K) → recurs order k ks ≡ false → (not (same k b) && has_pair order k b ks) ≡ option_map_or (same b) (callee k ks) false
  calls_is k b [] alone = and_none (not (same k b))
  calls_is k b (q ∷ ks) alone =
      elim (same k q) as (λ t. same k q ≡ t → cond t (comes_again order k ks) (recurs order k ks) ≡ false
      → (not (same k b) && stands_over order k b q ks) ≡ option_map_or (same b) (cond t None (below k q ks)) false) [
        | true ↦ λ here rest. none_in_run k b q ks here rest
        | false ↦ λ here rest. calls_from k b q ks here rest
      ] refl alone

  -- no root is k where k isn't
  not_root : (k : K) (ks : List K) → has order k ks ≡ false → roots order k ks ≡ false
  not_root k [] none = refl
  not_root k (q ∷ []) none = sym (or_none (same k q)) ∙ none
  not_root k (q ∷ r ∷ ks) none = not_root k (r ∷ ks) (later (same k q) none)
    where
      later : (b : Bool) → (b || has order k (r ∷ ks)) ≡ false → has order k (r ∷ ks) ≡ false
      later true gone = absurd (true≢false gone)
      later false gone = gone

  root_next : (k q : K) (ks : List K) → same k q ≡ false → roots order k (q ∷ ks) ≡ roots order k ks
  root_next k q [] apart = apart
  root_next k q (r ∷ ks) apart = refl

  module _ (v : ℤ) where
    root_in_run : (k under : K) (ks : List K) → same k under ≡ true → comes_again order k ks ≡ false
        → cond (is_some (above k ks)) v (pos 0) +ℤ cond (roots order k (under ∷ ks)) v (pos 0) ≡ v
    root_in_run k under [] run alone = +ℤ_idl _ ∙ ap (λ b. cond b v (pos 0)) run
    root_in_run k under (q ∷ ks) run alone =
        elim (same k q) as (λ b. same k q ≡ b → cond b (comes_again order k ks) (has order k ks) ≡ false
        → cond (is_some (cond b (above k ks) (Some q))) v (pos 0) +ℤ cond (roots order k (q ∷ ks)) v (pos 0) ≡ v) [
          | true ↦ λ here rest. root_in_run k q ks here rest
          | false ↦ λ here rest. ap (λ b. v +ℤ cond b v (pos 0)) (root_next k q ks here ∙ not_root k ks rest) ∙ +ℤ_idr v
        ] refl alone

    -- a sample with k has a caller of it, or k is its root
    caller_or_root : (k : K) (ks : List K) → recurs order k ks ≡ false
        → cond (is_some (caller k ks)) v (pos 0) +ℤ cond (roots order k ks) v (pos 0) ≡ cond (has order k ks) v (pos 0)
    caller_or_root k [] alone = refl
    caller_or_root k (q ∷ ks) alone =
        elim (same k q) as (λ b. same k q ≡ b → cond b (comes_again order k ks) (recurs order k ks) ≡ false
        → cond (is_some (cond b (above k ks) (caller k ks))) v (pos 0) +ℤ cond (roots order k (q ∷ ks)) v (pos 0) ≡ cond (b || has order k ks) v (pos 0)) [
          | true ↦ λ here rest. root_in_run k q ks here rest
          | false ↦ λ here rest. ap (λ b. cond (is_some (caller k ks)) v (pos 0) +ℤ cond b v (pos 0)) (root_next k q ks here) ∙ caller_or_root k ks rest
        ] refl alone

    below_some : (k under : K) (ks : List K) → is_some (below k under ks) ≡ has order k ks
    below_some k under [] = refl
    below_some k under (q ∷ ks) = elim (same k q) as (λ b. is_some (cond b (Some under) (below k q ks)) ≡ (b || has order k ks)) [ true ↦ refl | false ↦ below_some k q ks ]

    -- a sample with k has a callee of it, or k is its leaf
    callee_or_leaf : (k : K) (ks : List K)
        → cond (is_some (callee k ks)) v (pos 0) +ℤ cond (leads order k ks) v (pos 0) ≡ cond (has order k ks) v (pos 0)
    callee_or_leaf k [] = refl
    callee_or_leaf k (q ∷ ks) =
        elim (same k q) as (λ b. cond (is_some (cond b None (below k q ks))) v (pos 0) +ℤ cond b v (pos 0) ≡ cond (b || has order k ks) v (pos 0)) [
          | true ↦ +ℤ_idl v
          | false ↦ +ℤ_idr _ ∙ ap (λ b. cond b v (pos 0)) (below_some k q ks)
        ]

  -- Keys among which each of some is listed.
  module _ (keys : List K) (apart : IsDistinct same keys) where
    abbrev AreListed : List K → Type 0
    AreListed ks = (j : K) → has order j ks ≡ true → list_any (same j) keys ≡ true

    rest_listed : (q : K) (ks : List K) → AreListed (q ∷ ks) → AreListed ks
    rest_listed q ks listed = λ j is. listed j (or_right (same j q) (has order j ks) is)

    first_listed : (q j : K) (ks : List K) → AreListed (q ∷ ks) → Some q ≡ Some j → list_any (same j) keys ≡ true
    first_listed q j ks listed is = listed j (ap (λ b. b || has order j ks) ((decides j q).1 (sym (same_Some q j is))))

    above_listed : (k : K) (ks : List K) → AreListed ks → (j : K) → above k ks ≡ Some j → list_any (same j) keys ≡ true
    above_listed k [] listed j is = absurd (none-some j is)
    above_listed k (q ∷ ks) listed j is = elim (same k q) as (λ b. cond b (above k ks) (Some q) ≡ Some j → list_any (same j) keys ≡ true) [
      | true ↦ λ found. above_listed k ks (rest_listed q ks listed) j found
      | false ↦ λ found. first_listed q j ks listed found
    ] is

    caller_listed : (k : K) (ks : List K) → AreListed ks → (j : K) → caller k ks ≡ Some j → list_any (same j) keys ≡ true
    caller_listed k [] listed j is = absurd (none-some j is)
    caller_listed k (q ∷ ks) listed j is = elim (same k q) as (λ b. cond b (above k ks) (caller k ks) ≡ Some j → list_any (same j) keys ≡ true) [
      | true ↦ λ found. above_listed k ks (rest_listed q ks listed) j found
      | false ↦ λ found. caller_listed k ks (rest_listed q ks listed) j found
    ] is

    below_listed : (k under : K) (ks : List K) → AreListed (under ∷ ks) → (j : K) → below k under ks ≡ Some j → list_any (same j) keys ≡ true
    below_listed k under [] listed j is = absurd (none-some j is)
    below_listed k under (q ∷ ks) listed j is = elim (same k q) as (λ b. cond b (Some under) (below k q ks) ≡ Some j → list_any (same j) keys ≡ true) [
      | true ↦ λ found. first_listed under j (q ∷ ks) listed found
      | false ↦ λ found. below_listed k q ks (rest_listed under (q ∷ ks) listed) j found
    ] is

    callee_listed : (k : K) (ks : List K) → AreListed ks → (j : K) → callee k ks ≡ Some j → list_any (same j) keys ≡ true
    callee_listed k [] listed j is = absurd (none-some j is)
    callee_listed k (q ∷ ks) listed j is = elim (same k q) as (λ b. cond b None (below k q ks) ≡ Some j → list_any (same j) keys ≡ true) [
      | true ↦ λ found. absurd (none-some j found)
      | false ↦ λ found. below_listed k q ks listed j found
    ] is

    -- the sum over the one key that is told
    over_one : (v : ℤ) (told : Option K) → ((j : K) → told ≡ Some j → list_any (same j) keys ≡ true)
        → sum_over (λ a. cond (option_map_or (same a) told false) v (pos 0)) keys ≡ cond (is_some told) v (pos 0)
    over_one v None listed = sum_none keys
    over_one v (Some q) listed = one_match (eq_by_cmp_equiv o) v q keys apart (listed q refl)

    module _ (kept : K → Bool) (k : K) where
      all_kept : (ks : List K) → AllByRecursion (λ q. kept q ≡ true) ks → filter kept ks ≡ ks
      all_kept [] all = refl
      all_kept (q ∷ ks) all = λ i. cond (all.0 i) (q ∷ all_kept ks all.1 i) (all_kept ks all.1 i)

      module _ (s : Seen K) (all : AllByRecursion (λ q. kept q ≡ true) s.keys) (alone : recurs order k s.keys ≡ false) (listed : AreListed s.keys) where
        callers_of_one : sum_over (λ a. part (has_edge order kept a k) s) keys +ℤ part (roots order k) s ≡ part (has order k) s
        callers_of_one =
            ap (λ v. v +ℤ part (roots order k) s)
            (sum_same (λ a. part (has_edge order kept a k) s) (λ a. cond (option_map_or (same a) (caller k s.keys) false) s.value (pos 0)) keys
            (λ a i. cond ((ap (λ ks. not (same a k) && has_pair order a k ks) (all_kept s.keys all) ∙ called_is k a s.keys alone) i) s.value (pos 0))
            ∙ over_one s.value (caller k s.keys) (caller_listed k s.keys listed))
            ∙ caller_or_root s.value k s.keys alone

        callees_of_one : sum_over (λ b. part (has_edge order kept k b) s) keys +ℤ part (leads order k) s ≡ part (has order k) s
        callees_of_one =
            ap (λ v. v +ℤ part (leads order k) s)
            (sum_same (λ b. part (has_edge order kept k b) s) (λ b. cond (option_map_or (same b) (callee k s.keys) false) s.value (pos 0)) keys
            (λ b i. cond ((ap (λ ks. not (same k b) && has_pair order k b ks) (all_kept s.keys all) ∙ calls_is k b s.keys alone) i) s.value (pos 0))
            ∙ over_one s.value (callee k s.keys) (callee_listed k s.keys listed))
            ∙ callee_or_leaf s.value k s.keys

      pub callers_account : (ss : List (Seen K)) → AllByRecursion (λ s. AllByRecursion (λ q. kept q ≡ true) s.keys) ss → AllByRecursion (λ s. recurs order k s.keys ≡ false) ss
          → ((j : K) → occurs order ss j ≡ true → list_any (same j) keys ≡ true)
          → sum_over (λ a. edge_sum order kept ss a k) keys +ℤ sum_where (roots order k) ss ≡ cum order ss k
      callers_account [] all alone listed = +ℤ_idr (sum_over (λ a. pos 0) keys) ∙ sum_none keys
      callers_account (s ∷ ss) all alone listed =
          ap (λ v. v +ℤ sum_where (roots order k) (s ∷ ss)) (sum_plus (λ a. part (has_edge order kept a k) s) (λ a. edge_sum order kept ss a k) keys)
          ∙ added (sum_over (λ a. part (has_edge order kept a k) s) keys) (sum_over (λ a. edge_sum order kept ss a k) keys) (part (roots order k) s) (sum_where (roots order k) ss)
          (part (has order k) s) (cum order ss k)
          (callers_of_one s all.0 alone.0 (λ j is. listed j (ap (λ b. b || occurs order ss j) is)))
          (callers_account ss all.1 alone.1 (λ j is. listed j (or_right (has order j s.keys) (occurs order ss j) is)))

      pub callees_account : (ss : List (Seen K)) → AllByRecursion (λ s. AllByRecursion (λ q. kept q ≡ true) s.keys) ss → AllByRecursion (λ s. recurs order k s.keys ≡ false) ss
          → ((j : K) → occurs order ss j ≡ true → list_any (same j) keys ≡ true)
          → sum_over (λ b. edge_sum order kept ss k b) keys +ℤ flat order ss k ≡ cum order ss k
      callees_account [] all alone listed = +ℤ_idr (sum_over (λ b. pos 0) keys) ∙ sum_none keys
      callees_account (s ∷ ss) all alone listed =
          ap (λ v. v +ℤ flat order (s ∷ ss) k) (sum_plus (λ b. part (has_edge order kept k b) s) (λ b. edge_sum order kept ss k b) keys)
          ∙ added (sum_over (λ b. part (has_edge order kept k b) s) keys) (sum_over (λ b. edge_sum order kept ss k b) keys) (part (leads order k) s) (flat order ss k)
          (part (has order k) s) (cum order ss k)
          (callees_of_one s all.0 alone.0 (λ j is. listed j (ap (λ b. b || occurs order ss j) is)))
          (callees_account ss all.1 alone.1 (λ j is. listed j (or_right (has order j s.keys) (occurs order ss j) is)))

pub edges_account : EdgesAccount
edges_account kept p f config column k all alone = record {
  callers = sym (callers_account key_cmp_total key_decides (all_report_keys p f config column) (rows_apart p f config column) kept k (report_samples p f config column) all alone (rows_known p f config column));
  callees = sym (callees_account key_cmp_total key_decides (all_report_keys p f config column) (rows_apart p f config column) kept k (report_samples p f config column) all alone (rows_known p f config column));
}
