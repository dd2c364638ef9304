-- Keys listed each once, in an order: which they are, and that they are told apart.
use Rattle.std.proofs.Common.{◌≡◌, true, false, List, [], ◌∷◌, map, refl, sym, ap, ◌∙◌}
use Rattle.std.specs.List.{AllByRecursion, IsDistinct, list_any}
use Rattle.std.specs.Option.{is_some}
use Rattle.std.specs.Ordering.{eq_by_cmp, is_lt, is_eq}
use Rattle.std.specs.Cmp.{IsTotalOrder}
use Rattle.std.specs.FinMap as finite
use Rattle.std.specs.FinMap.Entries.{below_all, is_sorted, is_some-find}
use Rattle.std.specs.declared.cmp.Ordering.{Ordering}
use Rattle.std.specs.declared.cmp.Ordering.TheVariants.{Less, Equal, Greater}
use Rattle.std.proofs.lemmas.Bool.{false≢true, and_parts}
use Rattle.pp_base.proofs.Booleans.{is_true, marked}
use Rattle.pp_count.specs.Ranks.{each_once, set_entry}

items_keys : {K : Type 0} (ks : List K) → map (λ e. e.0) (map set_entry ks) ≡ ks
items_keys [] = refl
items_keys (k ∷ ks) = ap (λ r. k ∷ r) (items_keys ks)

not_tied : (r : Ordering) → is_lt r ≡ true → is_eq r ≡ false
not_tied Less h = refl
not_tied Equal h = absurd (false≢true h)
not_tied Greater h = absurd (false≢true h)

module _ {K X : Type 0} (R : K → K → Ordering) where
  below_apart : (x : K) (es : List (K × X)) → below_all R x es ≡ true → AllByRecursion (λ y. eq_by_cmp R x y ≡ false) (map (λ e. e.0) es)
  below_apart x [] h = tt
  below_apart x (e ∷ es) h = let parts = and_parts _ _ h in (not_tied (R x e.0) parts.0, below_apart x es parts.1)

  sorted_apart : (es : List (K × X)) → is_sorted R es ≡ true → IsDistinct (eq_by_cmp R) (map (λ e. e.0) es)
  unfolding IsDistinct
  sorted_apart [] h = tt
  sorted_apart (e ∷ es) h = let parts = and_parts _ _ h in (below_apart e.0 es parts.0, sorted_apart es parts.1)

-- no key is listed twice
pub each_once_apart : {K : Type 0} (R : K → K → Ordering) (xs : List K) → IsDistinct (eq_by_cmp R) (each_once R xs)
each_once_apart R xs = let m = finite.from_entries {R = R} (map set_entry xs) in sorted_apart R (finite.entries m) (is_true _ (finite.entries_sorted m))

module _ {K : Type 0} {R : K → K → Ordering} (o : IsTotalOrder R) where
  found : (xs : List K) (q : K) → is_some (finite.get (finite.from_entries {R = R} (map set_entry xs)) q) ≡ list_any (eq_by_cmp R q) xs
  found xs q = ap is_some (finite.get-from_entries o (map set_entry xs) q) ∙ is_some-find R q (map set_entry xs) ∙ ap (list_any (eq_by_cmp R q)) (items_keys xs)

  -- the keys listed are the keys given
  pub each_once_members : (xs : List K) (q : K) → list_any (eq_by_cmp R q) (each_once R xs) ≡ list_any (eq_by_cmp R q) xs
  each_once_members xs q = sym (finite.contains_key-keys (finite.from_entries {R = R} (map set_entry xs)) q) ∙ found xs q

  module _ (same : finite.IsAntisymmetric R) where
    -- lists with the same keys list the same
    pub each_once_same : (xs ys : List K) → ((q : K) → list_any (eq_by_cmp R q) xs ≡ list_any (eq_by_cmp R q) ys) → each_once R xs ≡ each_once R ys
    each_once_same xs ys members = ap finite.keys (finite.same_map o same
        (finite.from_entries {R = R} (map set_entry xs)) (finite.from_entries {R = R} (map set_entry ys))
        (λ q. marked _ _ (found xs q ∙ members q ∙ sym (found ys q))))
