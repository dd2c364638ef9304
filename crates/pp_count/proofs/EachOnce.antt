-- A sorted list without ties is the set of its items: for crates that sort what a report lists.
use Rattle.std.proofs.Common.{◌≡◌, Bool, true, false, cond, ◌&&◌, List, [], ◌∷◌, map, Option, Some, None, refl, sym, ap, subst, ◌∙◌, T}
use Rattle.std.proofs.lemmas.Bool.{false≢true}
use Rattle.std.specs.List.{list_any, dedup, dedup_from, AllByRecursion, IsDistinct}
use Rattle.std.specs.List.Sorted.{IsSorted, IsStrictlySortedBy}
use Rattle.std.specs.Option.{is_some}
use Rattle.std.specs.Bool.{Decides}
use Rattle.std.specs.Ordering.{eq_by_cmp, is_lt, is_eq}
use Rattle.std.specs.Cmp.{IsTotalOrder}
use Rattle.std.proofs.lemmas.Cmp.{tied_itself}
use Rattle.std.specs.declared.cmp.Ordering.{Ordering}
use Rattle.std.specs.declared.cmp.Ordering.TheVariants.{Less}
use Rattle.std.proofs.lemmas.List.Kept.{IsStrictlySortedBy-dedup}
use Rattle.std.specs.FinMap as finite
use Rattle.std.specs.FinMap.Entries.{below_all, is_sorted, is_some-find}
use Rattle.pp_base.proofs.Booleans.{same_bool}
use Rattle.pp_base.proofs.Orders.{equal_is}
use Rattle.pp_count.specs.Ranks.{each_once, set_entry}

module _ {K : Type 0} (R : K → K → Ordering) where
  -- no item ties with the one before it
  abbrev pub Apart : K → List K → Type 0
  Apart k [] = Unit {0}
  Apart k (x ∷ xs) = (eq_by_cmp R x k ≡ false) × Apart x xs

  abbrev pub AllApart : List K → Type 0
  AllApart [] = Unit {0}
  AllApart (k ∷ ks) = Apart k ks

  -- where none does, none is left out
  dedup-apart : (k : K) (ks : List K) → Apart k ks → dedup_from (eq_by_cmp R) k ks ≡ k ∷ ks
  dedup-apart k [] a = refl
  dedup-apart k (x ∷ xs) a = ap (λ b. cond b (dedup_from (eq_by_cmp R) k xs) (k ∷ dedup_from (eq_by_cmp R) x xs)) a.0 ∙ ap (λ r. k ∷ r) (dedup-apart x xs a.1)

  dedup-all : (ks : List K) → AllApart ks → dedup (eq_by_cmp R) ks ≡ ks
  dedup-all [] a = refl
  dedup-all (k ∷ ks) a = dedup-apart k ks a

  -- what rises strictly is in order as entries of a set
  below_items : (k : K) (ks : List K) → AllByRecursion (λ y. R k y ≡ Less) ks → below_all R k (map set_entry ks) ≡ true
  below_items k [] a = refl
  below_items k (x ∷ xs) a = ap (λ o. is_lt o && below_all R k (map set_entry xs)) a.0 ∙ below_items k xs a.1

  sorted_items : (ks : List K) → IsStrictlySortedBy R ks → is_sorted R (map set_entry ks) ≡ true
  unfolding IsStrictlySortedBy
  sorted_items [] s = refl
  sorted_items (k ∷ ks) s = ap (λ b. b && is_sorted R (map set_entry ks)) (below_items k ks s.0) ∙ sorted_items ks s.1

  true_holds : (b : Bool) → b ≡ true → T b
  true_holds b e = subst T (sym e) tt

  pub keys-items : (ks : List K) → map (λ e. e.0) (map set_entry ks) ≡ ks
  keys-items [] = refl
  keys-items (k ∷ ks) = ap (λ r. k ∷ r) (keys-items ks)

  -- what is found of a unit is told by whether it is found
  marked : (o p : Option (Unit {0})) → is_some o ≡ is_some p → o ≡ p
  marked None None e = refl
  marked None (Some u) e = absurd (false≢true e)
  marked (Some u) None e = absurd (false≢true (sym e))
  marked (Some u) (Some v) e = refl

module _ {K : Type 0} {R : K → K → Ordering} (o : IsTotalOrder R) (same : finite.IsAntisymmetric R) where
  -- a sorted list in which no item ties with the one before it is the set of any list with the same members
  pub ranked : (xs ks : List K) → IsSorted R ks → AllApart R ks
      → ((q : K) → list_any (eq_by_cmp R q) xs ≡ list_any (eq_by_cmp R q) ks)
      → each_once R xs ≡ ks
  ranked xs ks sorted apart members =
      let strict : IsStrictlySortedBy R ks = subst (λ (l : List K). IsStrictlySortedBy R l) (dedup-all R ks apart) (IsStrictlySortedBy-dedup o (λ x y. refl) ks sorted) in
      let in_order : T (is_sorted R (map set_entry ks)) = true_holds R _ (sorted_items R ks strict) in
      let set = finite.from_sorted {R = R} (map set_entry ks) in
      let listed : finite.keys set ≡ ks = ap (map (λ e. e.0)) (finite.entries-from_sorted R (map set_entry ks) in_order) ∙ keys-items R ks in
      let equal : finite.from_entries {R = R} (map set_entry xs) ≡ set = finite.same_map o same _ _ (λ q. marked R _ _
      (ap is_some (finite.get-from_entries o (map set_entry xs) q) ∙ is_some-find R q (map set_entry xs) ∙ ap (list_any (eq_by_cmp R q)) (keys-items R xs)
      ∙ members q ∙ sym (ap (list_any (eq_by_cmp R q)) (keys-items R ks)) ∙ sym (is_some-find R q (map set_entry ks)) ∙ sym (ap is_some (finite.get-from_sorted R (map set_entry ks) q in_order)))) in
      ap finite.keys equal ∙ listed

module _ {K : Type 0} {R : K → K → Ordering} (o : IsTotalOrder R) (alike : finite.IsAntisymmetric R) where
  -- where only what is the same ties, the test for ties decides what is the same
  pub tied_decides : (x y : K) → Decides (eq_by_cmp R x y) (x ≡ y)
  tied_decides x y = (λ e. alike x y (equal_is (R x y) e), λ is. ap (eq_by_cmp R x) (sym is) ∙ ap is_eq (tied_itself o x))

-- Items that are told apart by a test of its own.
module _ {K : Type 0} {R : K → K → Ordering} (o : IsTotalOrder R) (alike : finite.IsAntisymmetric R)
    (same : K → K → Bool) (decides : (x y : K) → Decides (same x y) (x ≡ y)) where
  pub same_ties : (x y : K) → eq_by_cmp R x y ≡ same x y
  same_ties x y = same_bool _ _
      (λ e. (decides x y).1 ((tied_decides o alike x y).0 e))
      (λ e. (tied_decides o alike x y).1 ((decides x y).0 e))

  same_symm : (x y : K) → same x y ≡ same y x
  same_symm x y = same_bool _ _
      (λ e. (decides y x).1 (sym ((decides x y).0 e)))
      (λ e. (decides x y).1 (sym ((decides y x).0 e)))

  apart_next : (k : K) (ks : List K) → IsDistinct same (k ∷ ks) → Apart R k ks
  unfolding IsDistinct
  apart_next k [] d = tt
  apart_next k (x ∷ xs) d = (same_ties x k ∙ same_symm x k ∙ d.0.0, apart_next x xs d.1)

  apart_all : (ks : List K) → IsDistinct same ks → AllApart R ks
  apart_all [] d = tt
  apart_all (k ∷ ks) d = apart_next k ks d

  -- A list sorted by R, with no two items the same, is the set of any list with its items, in the order of R.
  pub each_once_is : (xs ks : List K) → IsSorted R ks → IsDistinct same ks
      → ((x : K) → list_any (same x) xs ≡ list_any (same x) ks)
      → each_once R xs ≡ ks
  each_once_is xs ks sorted distinct members =
      ranked o alike xs ks sorted (apart_all ks distinct)
      (λ x. (λ i. list_any (λ y. same_ties x y i) xs) ∙ members x ∙ (λ i. list_any (λ y. sym (same_ties x y) i) ks))
