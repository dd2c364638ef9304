-- The sorted branches of a node are its children in the call tree.
use Rattle.std.proofs.Common.{◌≡◌, ℕ, zero, suc, ◌+◌, ◌<◌, false, nat_eq, nat_abs, List, [], ◌∷◌, length, map, get_or, All, refl, sym, ap, subst, ◌∙◌, arith}
use Rattle.std.specs.List.{list_any, IsDistinct, AllByRecursion}
use Rattle.std.specs.List.Sorted.{IsPermutation, IsSorted}
use Rattle.std.specs.Ordering.{nat_cmp, eq_by_cmp, is_lt, is_eq, ordering_then}
use Rattle.std.specs.Cmp.{IsTotalOrder, nat_cmp_total, tied_itself, unsigned_tied}
use Rattle.std.specs.FinMap.{IsAntisymmetric}
use Rattle.std.proofs.lemmas.Bool.{eq-eqb}
use Rattle.std.proofs.lemmas.Cmp.{nat_eq_equiv, on_total, then_total, back_total, eq_by_cmp_equiv}
use Rattle.std.proofs.lemmas.List.{get_or-map, length-map}
use Rattle.std.proofs.lemmas.List.Elements.{All-head, All-tail, All-map}
use Rattle.std.proofs.lemmas.List.Folds.{list_any_at}
use Rattle.std.proofs.lemmas.List.Sorted.{IsPermutation-map, All-permutation, list_any-IsPermutation}
use Rattle.std.proofs.lemmas.Map.Keys.{IsDistinct-IsPermutation}
use Rattle.pp_base.proofs.Booleans.{same_bool}
use Rattle.pp_base.proofs.Orders.{both_equal, equal_is}
use Rattle.pp_model.specs.FrameTexts.{Written}
use Rattle.pp_grain.specs.Keys.{key_cmp}
use Rattle.pp_grain.proofs.CallerLemmas.{key_cmp_total, key_cmp_ties}
use Rattle.pp_count.specs.Sums.{Seen, renamed}
use Rattle.pp_count.specs.Parts.{HasBelow}
use Rattle.pp_count.proofs.EachOnce.{Apart, AllApart, ranked}
use Rattle.pp_count.proofs.Renaming.{same_found, list_any-renamed}
use Rattle.pp_calltree.specs.declared.branch.Branch.{Branch}
use Rattle.pp_calltree.specs.declared.texts.NameTexts.{NameTexts}
use Rattle.pp_calltree.specs.CallTree.{first_keys, path_cum, path_flat, sibling_order, siblings}
use Rattle.pp_calltree.specs.Branches.{Said, branch_said, branch_of, AreBranches}
use Rattle.pp_calltree.specs.Siblings.{texts_at, size_cmp, branch_cmp}
use Rattle.pp_calltree.proofs.Under.{first_keys-renamed, path_cum-renamed, path_flat-renamed, first_below}

-- the branches of samples, in any order
pub listed : (depth : ℕ) (S : List (Seen ℕ)) (xs list : List Branch) → AreBranches depth S xs → IsPermutation xs list → AreBranches depth S list
listed depth S xs list are moved =
    let keys : IsPermutation (map (λ (b : Branch). b.key) xs) (map (λ (b : Branch). b.key) list) = IsPermutation-map (λ (b : Branch). b.key) _ _ moved in
    record {
      said_are = All-permutation (λ (b : Branch). branch_said b ≡ branch_of depth S b.key) _ _ moved are.said_are;
      present = λ m. sym (list_any-IsPermutation (nat_eq m) _ _ keys) ∙ are.present m;
      distinct = IsDistinct-IsPermutation nat_eq nat_eq_equiv.symm _ _ keys are.distinct;
    }

module _ (W : List (Seen Written)) where
  pub order_total : IsTotalOrder (sibling_order key_cmp W)
  order_total =
      then_total
      (then_total (back_total (on_total (λ k. nat_abs (path_cum key_cmp W k)) nat_cmp_total)) (back_total (on_total (λ k. nat_abs (path_flat key_cmp W k)) nat_cmp_total)))
      key_cmp_total

  pub order_same : IsAntisymmetric (sibling_order key_cmp W)
  order_same x y e = key_cmp_ties x y (both_equal _ _ e).1

  -- it ties exactly what the order of keys ties
  pub order_ties : (x y : Written) → eq_by_cmp (sibling_order key_cmp W) x y ≡ eq_by_cmp key_cmp x y
  order_ties x y = same_bool _ _
      (λ e. ap (λ k. eq_by_cmp key_cmp x k) (sym (order_same x y (equal_is _ e))) ∙ ap is_eq (tied_itself key_cmp_total x))
      (λ e. ap (λ k. eq_by_cmp (sibling_order key_cmp W) x k) (sym (key_cmp_ties x y (equal_is _ e))) ∙ ap is_eq (tied_itself order_total x))

  keys_apart : (k : Written) (ks : List Written) → IsDistinct (eq_by_cmp key_cmp) (k ∷ ks) → Apart (sibling_order key_cmp W) k ks
  unfolding IsDistinct
  keys_apart k [] d = tt
  keys_apart k (x ∷ xs) d = (order_ties x k ∙ (eq_by_cmp_equiv key_cmp_total).symm x k ∙ d.0.0, keys_apart x xs d.1)

  all_apart : (ks : List Written) → IsDistinct (eq_by_cmp key_cmp) ks → AllApart (sibling_order key_cmp W) ks
  all_apart [] d = tt
  all_apart (k ∷ ks) d = keys_apart k ks d

-- the item at a place
item_at : {A : Type 0} (xs : List A) (j : ℕ) → j < length xs → A
item_at [] j h = absurd (omega arith)
item_at (x ∷ xs) zero h = x
item_at (x ∷ xs) (suc j) h = item_at xs j (omega arith)

module _ (texts : NameTexts) (name : ℕ → Written) (n : ℕ) (apart : (a b : ℕ) → a < n → b < n → eq_by_cmp key_cmp (name a) (name b) ≡ eq_by_cmp nat_cmp a b)
    (texts_are : (k : ℕ) → k < n → texts_at texts k ≡ name k) (depth : ℕ) (S : List (Seen ℕ)) (below : All (HasBelow n) S) (list : List Branch) (are : AreBranches depth S list) where
  abbrev W : List (Seen Written)
  W = map (renamed name) S

  -- A branch has the sums of its key's children.
  record IsNode (b : Branch) : Type 0 where
    in_n : b.key < n
    cum_is : path_cum key_cmp W (name b.key) ≡ b.cum
    flat_is : path_flat key_cmp W (name b.key) ≡ b.flat

  pub keys_below : All (λ (b : Branch). b.key < n) list
  keys_below i d here =
      let k : ℕ = (get_or list i d).key in
      let within : i < length (map (λ (b : Branch). b.key) list) = omega (arith, here, length-map list (λ (b : Branch). b.key)) in
      first_below n k S below (sym (are.present k) ∙ list_any_at (nat_eq k) (map (λ (b : Branch). b.key) list) i 0 within (ap (nat_eq k) (get_or-map (λ (b : Branch). b.key) list i d 0 here) ∙ eq-eqb k k refl))

  nodes_are : All IsNode list
  nodes_are i d here =
      let b : Branch = get_or list i d in
      let in_n : b.key < n = keys_below i d here in
      let is : branch_said b ≡ branch_of depth S b.key = are.said_are i d here in
      record {
        in_n = in_n;
        cum_is = path_cum-renamed key_cmp name n apart b.key S in_n below ∙ sym (ap (λ (s : Said). s.cum) is);
        flat_is = path_flat-renamed key_cmp name n apart b.key S in_n below ∙ sym (ap (λ (s : Said). s.flat) is);
      }

  -- branches are ordered as their keys are
  nodes_order : (a b : Branch) → IsNode a → IsNode b → sibling_order key_cmp W (name a.key) (name b.key) ≡ branch_cmp texts a b
  nodes_order a b x y = λ i.
      ordering_then (ordering_then (size_cmp (x.cum_is i) (y.cum_is i)) (size_cmp (x.flat_is i) (y.flat_is i)))
      (key_cmp (sym (texts_are a.key x.in_n) i) (sym (texts_are b.key y.in_n) i))

  keys_sorted : IsSorted (branch_cmp texts) list → IsSorted (sibling_order key_cmp W) (map (λ (b : Branch). name b.key) list)
  keys_sorted sorted = λ k d low high.
      let len : length (map (λ (b : Branch). name b.key) list) ≡ length list = length-map list (λ (b : Branch). name b.key) in
      let here : k < length list = omega (arith, len, high) in
      let next : k + 1 < length list = omega (arith, len, high) in
      let e : Branch = item_at list k here in
      (λ i. is_lt (sibling_order key_cmp W (get_or-map (λ (b : Branch). name b.key) list (k + 1) e d next i) (get_or-map (λ (b : Branch). name b.key) list k e d here i)))
      ∙ ap is_lt (nodes_order (get_or list (k + 1) e) (get_or list k e) (nodes_are (k + 1) e next) (nodes_are k e here)) ∙ sorted k e low next

  apart_all : (x : ℕ) (xs : List ℕ) → x < n → All (λ m. m < n) xs → AllByRecursion (λ y. nat_eq x y ≡ false) xs → AllByRecursion (λ y. eq_by_cmp key_cmp (name x) y ≡ false) (map name xs)
  apart_all x [] in_n all d = tt
  apart_all x (y ∷ ys) in_n all d =
      (apart x y in_n (All-head (λ m. m < n) y ys all) ∙ unsigned_tied x y ∙ d.0, apart_all x ys in_n (All-tail (λ m. m < n) y ys all) d.1)

  distinct_all : (xs : List ℕ) → All (λ m. m < n) xs → IsDistinct nat_eq xs → IsDistinct (eq_by_cmp key_cmp) (map name xs)
  unfolding IsDistinct
  distinct_all [] all d = tt
  distinct_all (x ∷ xs) all d = (apart_all x xs (All-head (λ m. m < n) x xs all) (All-tail (λ m. m < n) x xs all) d.0, distinct_all xs (All-tail (λ m. m < n) x xs all) d.1)

  map_twice : (xs : List Branch) → map name (map (λ (b : Branch). b.key) xs) ≡ map (λ (b : Branch). name b.key) xs
  map_twice [] = refl
  map_twice (x ∷ xs) = ap (λ r. name x.key ∷ r) (map_twice xs)

  members : (q : Written) → list_any (eq_by_cmp key_cmp q) (first_keys W) ≡ list_any (eq_by_cmp key_cmp q) (map (λ (b : Branch). name b.key) list)
  members q =
      ap (list_any (eq_by_cmp key_cmp q)) (first_keys-renamed name S) ∙ list_any-renamed name (eq_by_cmp key_cmp q) (first_keys S)
      ∙ same_found (λ m. eq_by_cmp key_cmp q (name m)) (first_keys S) (map (λ (b : Branch). b.key) list)
      (λ m. sym (are.present m) ∙ (λ i. list_any (λ y. sym (unsigned_tied m y) i) (map (λ (b : Branch). b.key) list)))
      ∙ sym (list_any-renamed name (eq_by_cmp key_cmp q) (map (λ (b : Branch). b.key) list)) ∙ ap (list_any (eq_by_cmp key_cmp q)) (map_twice list)

  -- the keys of the sorted branches are the siblings
  pub siblings_are : IsSorted (branch_cmp texts) list → siblings key_cmp W ≡ map (λ b. name b.key) list
  siblings_are sorted =
      ranked (order_total W) (order_same W) (first_keys W) (map (λ (b : Branch). name b.key) list) (keys_sorted sorted)
      (all_apart W (map (λ (b : Branch). name b.key) list)
      (subst (IsDistinct (eq_by_cmp key_cmp)) (map_twice list) (distinct_all (map (λ (b : Branch). b.key) list) (All-map (λ (m : ℕ). m < n) (λ (b : Branch). b.key) list keys_below) are.distinct)))
      (λ q. (λ i. list_any (λ x. order_ties W q x i) (first_keys W)) ∙ members q ∙ (λ i. list_any (λ x. sym (order_ties W q x) i) (map (λ (b : Branch). name b.key) list)))

  -- the sums of a branch are those of its key
  pub row_cum : (i : ℕ) (d : Branch) → i < length list → path_cum key_cmp W (name (get_or list i d).key) ≡ (get_or list i d).cum
  row_cum i d here = (nodes_are i d here).cum_is

  pub row_flat : (i : ℕ) (d : Branch) → i < length list → path_flat key_cmp W (name (get_or list i d).key) ≡ (get_or list i d).flat
  row_flat i d here = (nodes_are i d here).flat_is
