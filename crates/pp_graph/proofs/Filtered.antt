-- What a filter leaves of keys that are listed each once, in an order.
use Rattle.std.proofs.Common.{◌≡◌, Bool, true, false, cond, List, [], ◌∷◌, map, None, refl, sym, ap, ◌∙◌}
use Rattle.std.specs.List.{filter}
use Rattle.std.specs.Cmp.{IsTotalOrder}
use Rattle.std.specs.FinMap as finite
use Rattle.std.specs.FinMap.Entries.{where_key, find-where_key, is_sorted-where_key, same_entries}
use Rattle.std.specs.declared.cmp.Ordering.{Ordering}
use Rattle.std.specs.declared.cmp.Ordering.TheVariants.{Equal}
use Rattle.pp_count.specs.Ranks.{each_once, set_entry}

module _ {K X : Type 0} (R : K → K → Ordering) where
  keys_filtered : (h : K → Bool) (es : List (K × X)) → map (λ e. e.0) (where_key R h es) ≡ filter h (map (λ e. e.0) es)
  keys_filtered h [] = refl
  keys_filtered h (e ∷ es) = elim (h e.0) as (λ b. map (λ x. x.0) (cond b (e ∷ where_key R h es) (where_key R h es)) ≡ cond b (e.0 ∷ filter h (map (λ x. x.0) es)) (filter h (map (λ x. x.0) es))) [
    | true ↦ ap (λ r. e.0 ∷ r) (keys_filtered h es)
    | false ↦ keys_filtered h es
  ]

items_filtered : {K : Type 0} (R : K → K → Ordering) (h : K → Bool) (ks : List K) → map set_entry (filter h ks) ≡ where_key R h (map set_entry ks)
items_filtered R h [] = refl
items_filtered R h (k ∷ ks) = elim (h k) as (λ b. map set_entry (cond b (k ∷ filter h ks) (filter h ks)) ≡ cond b (set_entry k ∷ where_key R h (map set_entry ks)) (where_key R h (map set_entry ks))) [
  | true ↦ ap (λ r. set_entry k ∷ r) (items_filtered R h ks)
  | false ↦ items_filtered R h ks
]

-- To leave keys out before listing is to leave them out after it.
pub each_once-filter : {K : Type 0} {R : K → K → Ordering} (o : IsTotalOrder R) (same : finite.IsAntisymmetric R) (h : K → Bool) (xs : List K)
    → each_once R (filter h xs) ≡ filter h (each_once R xs)
each_once-filter {K} {R} o same h xs =
    let all = finite.from_entries {R = R} (map set_entry xs) in
    let some = finite.from_entries {R = R} (map set_entry (filter h xs)) in
    let alike : (q x : K) → R q x ≡ Equal → h x ≡ h q = λ q x tie. ap h (sym (same q x tie)) in
    ap (map (λ e. e.0)) (same_entries R o same (finite.entries some) (where_key R h (finite.entries all))
    (finite.entries_sorted some) (is_sorted-where_key R h (finite.entries all) (finite.entries_sorted all))
    (λ q.
    sym (finite.get-entries some q) ∙ finite.get-from_entries o (map set_entry (filter h xs)) q
    ∙ ap (finite.find R q) (items_filtered R h xs) ∙ find-where_key R h q (alike q) (map set_entry xs)
    ∙ ap (λ r. cond (h q) r None) (sym (finite.get-from_entries o (map set_entry xs) q) ∙ finite.get-entries all q)
    ∙ sym (find-where_key R h q (alike q) (finite.entries all))))
    ∙ keys_filtered R h (finite.entries all)
