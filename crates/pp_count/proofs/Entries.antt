-- The entries of tallies, one after the other: those of the list, and those of the map.
use Rattle.std.proofs.Common.{◌≡◌, ◌≢◌, ℕ, zero, suc, ◌+◌, ◌<◌, ◌≤◌, Bool, true, false, cond, nat_eq, nat_lt, List, [], ◌∷◌, ◌++◌, length, take, get_or, Some, None, refl, sym, ap, ◌∙◌, subst, ⊎_elim, arith}
use Rattle.std.specs.List.{slice_get, IsDistinct, AllByRecursion}
use Rattle.std.specs.Map.{lookup, keys_of}
use Rattle.std.specs.Option.{unwrap_or}
use Rattle.std.proofs.lemmas.Bool.{cases_eq, cases_Bool, eq-eqb, ne_eqb, eqb-false, ltb-true, ltb-false}
use Rattle.std.proofs.lemmas.List.{take_more, take_all, append-nil, get_or-take, get_or_past, get_or_default, length-take-le}
use Rattle.std.proofs.lemmas.Option.{none-some, same_Some, get_or_from_slice_get, slice_get_within}
use Rattle.pp_count.specs.declared.tally.Tally.{Tally}
use Rattle.pp_count.specs.declared.slots.TallyRow.{TallyRow}
use Rattle.pp_count.specs.declared.part.KeySum.{KeySum}
use Rattle.pp_count.specs.Tally.{no_tally, slot_tally, tally_entry}
use Rattle.pp_count.specs.Parts.{sums_of}
use Rattle.pp_count.proofs.Slotted.{nothing}

-- what is kept of the key number in these entries
abbrev pub entry_at : List (ℕ × Tally) → ℕ → Tally
entry_at es k = unwrap_or (lookup (nat_eq k) es) no_tally

-- an entry's key is none of those before it
apart_at : (x : ℕ) (es : List (ℕ × Tally)) (i q : ℕ) (e : Tally) → AllByRecursion (λ y. nat_eq x y ≡ false) (keys_of es) → slice_get es i ≡ Some (q, e) → nat_eq x q ≡ false
apart_at x [] i q e apart found = cc
apart_at x (y ∷ es) zero q e apart found = subst (λ z. nat_eq x z ≡ false) (ap (λ p. p.0) (same_Some y (q, e) found)) apart.0
apart_at x (y ∷ es) (suc i) q e apart found = apart_at x es i q e apart.1 found

first_at : (es : List (ℕ × Tally)) (i q : ℕ) (e : Tally) → IsDistinct nat_eq (keys_of es) → slice_get es i ≡ Some (q, e) → lookup (nat_eq q) (take i es) ≡ None
unfolding IsDistinct
first_at [] i q e distinct found = cc
first_at (y ∷ es) zero q e distinct found = refl
first_at (y ∷ es) (suc i) q e distinct found =
    let other : nat_eq q y.0 ≡ false = ne_eqb q y.0 (λ same. eqb-false y.0 q (apart_at y.0 es i q e distinct.0 found) (sym same)) in
    ap (λ b. cond b (Some y.1) (lookup (nat_eq q) (take i es))) other ∙ first_at es i q e distinct.1 found

-- the entries with one more
lookup_more : (es : List (ℕ × Tally)) (i k q : ℕ) (e : Tally) → slice_get es i ≡ Some (q, e)
    → lookup (nat_eq k) (take (i + 1) es) ≡ lookup (nat_eq k) (take i es ++ (q, e) ∷ [])
lookup_more es i k q e found =
    ap (lookup (nat_eq k))
    (take_more es i (q, e) (slice_get_within es i (q, e) found) ∙ ap (λ p. take i es ++ p ∷ []) (get_or_from_slice_get es i (q, e) (q, e) found))

lookup_other : (es : List (ℕ × Tally)) (k q : ℕ) (e : Tally) → nat_eq k q ≡ false → lookup (nat_eq k) (es ++ (q, e) ∷ []) ≡ lookup (nat_eq k) es
lookup_other [] k q e other = ap (λ b. cond b (Some e) None) other
lookup_other (x ∷ es) k q e other = ap (λ r. cond (nat_eq k x.0) (Some x.1) r) (lookup_other es k q e other)

lookup_new : (es : List (ℕ × Tally)) (q : ℕ) (e : Tally) → lookup (nat_eq q) es ≡ None → lookup (nat_eq q) (es ++ (q, e) ∷ []) ≡ Some e
lookup_new [] q e none = ap (λ b. cond b (Some e) None) (eq-eqb q q refl)
lookup_new (x ∷ es) q e none =
    elim (nat_eq q x.0) as (λ b. cond b (Some x.1) (lookup (nat_eq q) es) ≡ None → cond b (Some x.1) (lookup (nat_eq q) (es ++ (q, e) ∷ [])) ≡ Some e) [
      | true ↦ λ some. absurd (none-some x.1 (sym some))
      | false ↦ λ rest. lookup_new es q e rest
    ] none

-- the entries of a key number, after those of the next entry that is listed
entry_more : (es : List (ℕ × Tally)) (i q : ℕ) (e : Tally) (k : ℕ) (sums new : List KeySum) → IsDistinct nat_eq (keys_of es) → slice_get es i ≡ Some (q, e)
    → sums ≡ tally_entry k (entry_at (take i es) k)
    → new ≡ sums ++ cond (nat_eq q k) (tally_entry q e) []
    → new ≡ tally_entry k (entry_at (take (i + 1) es) k)
entry_more es i q e k sums new distinct found so_far each = ⊎_elim
    (λ same. subst
    (λ (j : ℕ). sums ≡ tally_entry j (entry_at (take i es) j) → new ≡ sums ++ cond (nat_eq q j) (tally_entry q e) [] → new ≡ tally_entry j (entry_at (take (i + 1) es) j)) same
    (λ before after. after ∙ ap (λ b. sums ++ cond b (tally_entry q e) []) (eq-eqb q q refl)
    ∙ ap (λ r. r ++ tally_entry q e) (before ∙ ap (λ o. tally_entry q (unwrap_or o no_tally)) (first_at es i q e distinct found))
    ∙ ap (λ o. tally_entry q (unwrap_or o no_tally)) (sym (lookup_more es i q q e found ∙ lookup_new (take i es) q e (first_at es i q e distinct found)))) so_far each)
    (λ other. each ∙ ap (λ b. sums ++ cond b (tally_entry q e) []) (ne_eqb q k other) ∙ append-nil sums ∙ so_far
    ∙ ap (λ o. tally_entry k (unwrap_or o no_tally)) (sym (lookup_more es i k q e found ∙ lookup_other (take i es) k q e (ne_eqb k q (λ back. other (sym back))))))
    (cases_eq q k)

-- what is kept of the key number: in a list as far as it goes, else in rows as far as their places go, else in these
-- entries
abbrev pub held : List Tally → List ℕ → List TallyRow → List (ℕ × Tally) → ℕ → Tally
held listed places rows es k =
    cond (nat_lt k (length listed)) (get_or listed k no_tally) (cond (nat_lt k (length places)) (slot_tally places rows k) (entry_at es k))

step : (b1 b2 : Bool) (x y : Tally) (es : List (ℕ × Tally)) (i q : ℕ) (e : Tally) (k : ℕ) (sums new : List KeySum)
    → IsDistinct nat_eq (keys_of es) → slice_get es i ≡ Some (q, e)
    → sums ≡ tally_entry k (cond b1 x (cond b2 y (entry_at (take i es) k)))
    → new ≡ sums ++ cond (nat_eq q k) (cond b1 [] (cond b2 [] (tally_entry q e))) []
    → new ≡ tally_entry k (cond b1 x (cond b2 y (entry_at (take (i + 1) es) k)))
step true b2 x y es i q e k sums new distinct found before after = after ∙ nothing (nat_eq q k) sums ∙ before
step false true x y es i q e k sums new distinct found before after = after ∙ nothing (nat_eq q k) sums ∙ before
step false false x y es i q e k sums new distinct found before after = entry_more es i q e k sums new distinct found before after

-- one more entry of the map is listed
pub others_more : (listed : List Tally) (places : List ℕ) (rows : List TallyRow) (es : List (ℕ × Tally)) (i q : ℕ) (e : Tally) (sums new : List KeySum)
    → IsDistinct nat_eq (keys_of es) → slice_get es i ≡ Some (q, e)
    → ((k : ℕ) → sums_of k sums ≡ tally_entry k (held listed places rows (take i es) k))
    → ((k : ℕ) → sums_of k new
    ≡ sums_of k sums ++ cond (nat_eq q k) (cond (nat_lt k (length listed)) [] (cond (nat_lt k (length places)) [] (tally_entry q e))) [])
    → (k : ℕ) → sums_of k new ≡ tally_entry k (held listed places rows (take (i + 1) es) k)
others_more listed places rows es i q e sums new distinct found so_far each k =
    step (nat_lt k (length listed)) (nat_lt k (length places)) (get_or listed k no_tally) (slot_tally places rows k) es i q e k (sums_of k sums) (sums_of k new) distinct found (so_far k) (each k)

-- one more tally of a list leaves those of the other key numbers
other_read : (listed : List Tally) (i k : ℕ) → i ≢ k → i < length listed → get_or (take i listed) k no_tally ≡ get_or (take (i + 1) listed) k no_tally
other_read listed i k other here = ⊎_elim
    (λ before. let below : k < i = ltb-true k i before in get_or-take i listed k no_tally below ∙ sym (get_or-take (i + 1) listed k no_tally (omega (arith, below))))
    (λ past. let after : i < k = omega (arith, ltb-false k i past, other) in
    get_or_past (take i listed) k no_tally (omega (arith, length-take-le i listed (omega (arith, here)), after))
    ∙ sym (get_or_past (take (i + 1) listed) k no_tally (omega (arith, length-take-le (i + 1) listed (omega (arith, here)), after))))
    (cases_Bool (nat_lt k i))

-- one more tally of the list is listed
pub listed_more : (listed : List Tally) (i : ℕ) (d : Tally) (sums new : List KeySum) → i < length listed
    → ((k : ℕ) → sums_of k sums ≡ tally_entry k (get_or (take i listed) k no_tally))
    → ((k : ℕ) → sums_of k new ≡ sums_of k sums ++ cond (nat_eq i k) (tally_entry i (get_or listed i d)) [])
    → (k : ℕ) → sums_of k new ≡ tally_entry k (get_or (take (i + 1) listed) k no_tally)
listed_more listed i d sums new here so_far each k =
    let t : Tally = get_or listed i d in
    ⊎_elim
    (λ same. subst (λ (j : ℕ). sums_of j new ≡ tally_entry j (get_or (take (i + 1) listed) j no_tally)) same
    (each i ∙ ap (λ b. sums_of i sums ++ cond b (tally_entry i t) []) (eq-eqb i i refl)
    ∙ ap (λ r. r ++ tally_entry i t) (so_far i ∙ ap (tally_entry i) (get_or_past (take i listed) i no_tally (omega (arith, length-take-le i listed (omega (arith, here))))))
    ∙ ap (tally_entry i) (get_or_default listed i d no_tally here ∙ sym (get_or-take (i + 1) listed i no_tally (omega arith)))))
    (λ other. each k ∙ ap (λ b. sums_of k sums ++ cond b (tally_entry i t) []) (ne_eqb i k other) ∙ append-nil (sums_of k sums) ∙ so_far k
    ∙ ap (tally_entry k) (other_read listed i k other here))
    (cases_eq i k)

-- all are listed
pub listed_all : (listed : List Tally) (i : ℕ) (sums : List KeySum) → length listed ≤ i
    → ((k : ℕ) → sums_of k sums ≡ tally_entry k (get_or (take i listed) k no_tally))
    → (k : ℕ) → sums_of k sums ≡ tally_entry k (get_or listed k no_tally)
listed_all listed i sums past so_far k = so_far k ∙ ap (λ ts. tally_entry k (get_or ts k no_tally)) (take_all i listed past)
