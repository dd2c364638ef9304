-- Tallies with the entries of the samples that follow.
use Rattle.std.proofs.Common.{◌≡◌, ℕ, ◌+◌, ◌<◌, ◌≤◌, Bool, true, false, cond, ltb, ◌||◌, ◌==◌, pos, ◌+ℤ◌, nat_abs, List, [], ◌∷◌, ◌++◌, length, take, drop, get_or, ◌≢◌, sum_by, refl, sym, ap, ◌∙◌, subst, ⊎_elim, arith}
use Rattle.std.specs.Ordering.{nat_cmp}
use Rattle.std.specs.declared.cmp.Ordering.{Ordering}
use Rattle.std.proofs.Math.IntN.{+ℤ_assoc, +ℤ_idl, +ℤ_idr}
use Rattle.std.proofs.lemmas.Bool.{cases_eq, eq-eqb, ne_eqb, or_parts}
use Rattle.std.proofs.lemmas.List.{take_more, take-append-drop, append-nil}
use Rattle.std.proofs.lemmas.List.Elements.{filter-append}
use Rattle.std.proofs.lemmas.List.Sums.{sum_by-cons, sum_by-append}
use Rattle.std.proofs.lemmas.List.Folds.{list_any-append}
use Rattle.std.proofs.Math.Bool.{or-false}
use Rattle.pp_base.proofs.Sums.{triangle}
use Rattle.pp_count.specs.declared.tally.Tally.{Tally}
use Rattle.pp_count.specs.declared.part.KeySum.{KeySum}
use Rattle.pp_count.specs.Sums.{Seen, sum_where, has, leads, cum, flat, occurs}
use Rattle.pp_count.specs.Tally.{tally_plus, tally_added, IsTallyOf}
use Rattle.pp_count.specs.Parts.{sums_of, AreKeySums, flat_size, cum_size}
use Rattle.pp_count.proofs.Adding.{or-true}

-- the entries of two ranges, one after the other
pub added-append : (t : Tally) (xs ys : List KeySum) → tally_added t (xs ++ ys) ≡ tally_added (tally_added t xs) ys
added-append t [] ys = refl
added-append t (x ∷ xs) ys = added-append (tally_plus t x) xs ys

added-push : (t : Tally) (es : List KeySum) (e : KeySum) → tally_added t (es ++ e ∷ []) ≡ tally_plus (tally_added t es) e
added-push t es e = added-append t es (e ∷ [])

-- the entries of a key among one more
pub more_of : (k : ℕ) (sums : List KeySum) (i : ℕ) (d : KeySum) → i < length sums
    → sums_of k (take (i + 1) sums) ≡ sums_of k (take i sums) ++ cond ((get_or sums i d).key == k) (get_or sums i d ∷ []) []
more_of k sums i d here =
    ap (sums_of k) (take_more sums i d here) ∙ filter-append (λ (e : KeySum). e.key == k) (take i sums) (get_or sums i d ∷ [])

-- one more entry is added
pub joined_more : (at at0 new : ℕ → Tally) (sums : List KeySum) (i : ℕ) (d : KeySum)
    → i < length sums
    → ((k : ℕ) → at k ≡ tally_added (at0 k) (sums_of k (take i sums)))
    → new (get_or sums i d).key ≡ tally_plus (at (get_or sums i d).key) (get_or sums i d)
    → ((k : ℕ) → k ≢ (get_or sums i d).key → new k ≡ at k)
    → (k : ℕ) → new k ≡ tally_added (at0 k) (sums_of k (take (i + 1) sums))
joined_more at at0 new sums i d here so_far is others k =
    let e : KeySum = get_or sums i d in
    ⊎_elim
    (λ same.
    ap new (sym same) ∙ is
    ∙ ap (λ j. tally_plus (at j) e) same ∙ ap (λ t. tally_plus t e) (so_far k)
    ∙ sym (added-push (at0 k) (sums_of k (take i sums)) e)
    ∙ ap (λ b. tally_added (at0 k) (sums_of k (take i sums) ++ cond b (e ∷ []) [])) (sym (eq-eqb e.key k same))
    ∙ ap (tally_added (at0 k)) (sym (more_of k sums i d here)))
    (λ other.
    others k (λ back. other (sym back)) ∙ so_far k
    ∙ ap (tally_added (at0 k)) (sym (append-nil (sums_of k (take i sums))))
    ∙ ap (λ b. tally_added (at0 k) (sums_of k (take i sums) ++ cond b (e ∷ []) [])) (sym (ne_eqb e.key k other))
    ∙ ap (tally_added (at0 k)) (sym (more_of k sums i d here)))
    (cases_eq e.key k)

-- the entries so far and the next one are within all entries of its key
pub size_room : (f : KeySum → ℕ) (sums : List KeySum) (i : ℕ) (d : KeySum) → i < length sums
    → sum_by f (sums_of (get_or sums i d).key (take i sums)) + f (get_or sums i d) ≤ sum_by f (sums_of (get_or sums i d).key sums)
size_room f sums i d here =
    let e : KeySum = get_or sums i d in
    let front : sums_of e.key (take (i + 1) sums) ≡ sums_of e.key (take i sums) ++ e ∷ [] =
    more_of e.key sums i d here ∙ ap (λ b. sums_of e.key (take i sums) ++ cond b (e ∷ []) []) (eq-eqb e.key e.key refl) in
    let all : sums_of e.key sums ≡ sums_of e.key (take (i + 1) sums) ++ sums_of e.key (drop (i + 1) sums) =
    ap (sums_of e.key) (sym (take-append-drop (i + 1) sums)) ∙ filter-append (λ (x : KeySum). x.key == e.key) (take (i + 1) sums) (drop (i + 1) sums) in
    omega (
      arith,
      ap (sum_by f) all ∙ sum_by-append f (sums_of e.key (take (i + 1) sums)) (sums_of e.key (drop (i + 1) sums)),
      ap (sum_by f) front ∙ sum_by-append f (sums_of e.key (take i sums)) (e ∷ []),
      sum_by-cons f e [],
    )

-- what was added is within its size
pub flat_bound : (t : Tally) (es : List KeySum) → nat_abs (tally_added t es).flat ≤ nat_abs t.flat + flat_size es
flat_bound t [] = omega arith
flat_bound t (e ∷ es) = omega (arith, flat_bound (tally_plus t e) es, triangle t.flat e.flat, sum_by-cons (λ (x : KeySum). nat_abs x.flat) e es)

pub cum_bound : (t : Tally) (es : List KeySum) → nat_abs (tally_added t es).cum ≤ nat_abs t.cum + cum_size es
cum_bound t [] = omega arith
cum_bound t (e ∷ es) = omega (arith, cum_bound (tally_plus t e) es, triangle t.cum e.cum, sum_by-cons (λ (x : KeySum). nat_abs x.cum) e es)

-- sums over two ranges
pub sum_where-append : {K : Type 0} (p : List K → Bool) (a b : List (Seen K)) → sum_where p (a ++ b) ≡ sum_where p a +ℤ sum_where p b
sum_where-append p [] b = sym (+ℤ_idl (sum_where p b))
sum_where-append p (s ∷ a) b =
    ap (λ z. cond (p s.keys) s.value (pos 0) +ℤ z) (sum_where-append p a b) ∙ sym (+ℤ_assoc (cond (p s.keys) s.value (pos 0)) (sum_where p a) (sum_where p b))

module _ {K : Type 0} (order : K → K → Ordering) where
  leads_has : (k : K) (keys : List K) → has order k keys ≡ false → leads order k keys ≡ false
  leads_has k [] none = refl
  leads_has k (q ∷ keys) none = (or_parts _ _ none).0

  -- a key that does not occur has no sums
  cum_none : (b : List (Seen K)) (k : K) → occurs order b k ≡ false → cum order b k ≡ pos 0
  cum_none [] k none = refl
  cum_none (s ∷ b) k none =
      let parts = or_parts (has order k s.keys) (occurs order b k) none in
      ap (λ w. cond w s.value (pos 0) +ℤ cum order b k) parts.0 ∙ +ℤ_idl (cum order b k) ∙ cum_none b k parts.1

  flat_none : (b : List (Seen K)) (k : K) → occurs order b k ≡ false → flat order b k ≡ pos 0
  flat_none [] k none = refl
  flat_none (s ∷ b) k none =
      let parts = or_parts (has order k s.keys) (occurs order b k) none in
      ap (λ w. cond w s.value (pos 0) +ℤ flat order b k) (leads_has k s.keys parts.0) ∙ +ℤ_idl (flat order b k) ∙ flat_none b k parts.1

  -- The tally is that of the key over these samples.
  pub record IsTallyBy (samples : List (Seen K)) (k : K) (t : Tally) : Type 0 where
    pub flat_is : t.flat ≡ flat order samples k
    pub cum_is : t.cum ≡ cum order samples k
    pub occurs_is : ltb 0 t.last ≡ occurs order samples k

  -- the entry of a key over these samples, by its number
  abbrev pub entry_by : List (Seen K) → K → ℕ → KeySum
  entry_by samples k number = record { key = number; flat = flat order samples k; cum = cum order samples k }

  -- the tally of a key over two ranges
  pub tally_joined : (a b : List (Seen K)) (k : K) (number : ℕ) (t : Tally) (w : Bool) → occurs order b k ≡ w → IsTallyBy a k t
      → IsTallyBy (a ++ b) k (tally_added t (cond w (entry_by b k number ∷ []) []))
  tally_joined a b k number t true some is = record {
    flat_is = ap (λ z. z +ℤ flat order b k) is.flat_is ∙ sym (sum_where-append (leads order k) a b);
    cum_is = ap (λ z. z +ℤ cum order b k) is.cum_is ∙ sym (sum_where-append (has order k) a b);
    occurs_is = sym (or-true (occurs order a k)) ∙ ap (λ x. occurs order a k || x) (sym some) ∙ sym (list_any-append (λ (s : Seen K). has order k s.keys) a b);
  }
  tally_joined a b k number t false none is = record {
    flat_is = is.flat_is ∙ sym (+ℤ_idr (flat order a k)) ∙ ap (λ z. flat order a k +ℤ z) (sym (flat_none b k none)) ∙ sym (sum_where-append (leads order k) a b);
    cum_is = is.cum_is ∙ sym (+ℤ_idr (cum order a k)) ∙ ap (λ z. cum order a k +ℤ z) (sym (cum_none b k none)) ∙ sym (sum_where-append (has order k) a b);
    occurs_is = is.occurs_is ∙ sym (or-false (occurs order a k)) ∙ ap (λ x. occurs order a k || x) (sym none) ∙ sym (list_any-append (λ (s : Seen K). has order k s.keys) a b);
  }

-- the tallies over two ranges
pub tallies_joined : (a b : List (Seen ℕ)) (at new : ℕ → Tally) (sums : List KeySum) → ((k : ℕ) → IsTallyOf a k (at k)) → AreKeySums b sums
    → ((k : ℕ) → new k ≡ tally_added (at k) (sums_of k sums))
    → (k : ℕ) → IsTallyOf (a ++ b) k (new k)
tallies_joined a b at new sums before part each k =
    let t = before k in
    let is = tally_joined nat_cmp a b k k (at k) (occurs nat_cmp b k) refl (record { flat_is = t.flat; cum_is = t.cum; occurs_is = t.occurs }) in
    subst (λ (t : Tally). IsTallyOf (a ++ b) k t) (sym (each k ∙ ap (tally_added (at k)) (part k)))
    (record { flat = is.flat_is; cum = is.cum_is; occurs = is.occurs_is })
