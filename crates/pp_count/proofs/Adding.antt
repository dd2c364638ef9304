-- How sums over samples grow with one more sample, and how large they can be.
use Rattle.std.proofs.Common.{◌≡◌, ℕ, ◌+◌, ◌<◌, ◌≤◌, Bool, true, false, cond, not, ◌||◌, ℤ, pos, ◌+ℤ◌, nat_abs, List, [], ◌∷◌, ◌++◌, refl, sym, ap, ◌∙◌, subst, ⊎_elim, arith}
use Rattle.std.specs.Ordering.{nat_cmp, int_eq}
use Rattle.std.proofs.Math.IntN.{+ℤ_assoc, +ℤ_idl, +ℤ_idr}
use Rattle.std.proofs.lemmas.Bool.{lt-ltb, cases_Bool}
use Rattle.std.proofs.lemmas.List.Elements.{filter-append}
use Rattle.std.proofs.lemmas.List.Sums.{sum_by-cons}
use Rattle.std.proofs.lemmas.List.Folds.{list_any-append}
use Rattle.std.proofs.Math.Bool.{or-false}
use Rattle.pp_base.proofs.Sums.{triangle}
use Rattle.pp_count.specs.declared.tally.Tally.{Tally}
use Rattle.pp_count.specs.Sums.{Seen, weighed, sum_where, has, leads, cum, flat, occurs, absolute}
use Rattle.pp_count.specs.Tally.{IsTallyOf, with_cum, with_sample, with_seen}

pub or-true : (a : Bool) → (a || true) ≡ true
or-true true = refl
or-true false = refl

-- the value of a sample that passes, and 0 of another
abbrev pub part : {K : Type 0} → (List K → Bool) → Seen K → ℤ
part p s = cond (p s.keys) s.value (pos 0)

pub sum_where_push : {K : Type 0} (p : List K → Bool) (ss : List (Seen K)) (s : Seen K)
    → sum_where p (ss ++ s ∷ []) ≡ sum_where p ss +ℤ part p s
sum_where_push p [] s = +ℤ_idr (part p s) ∙ sym (+ℤ_idl (part p s))
sum_where_push p (x ∷ ss) s = ap (λ z. part p x +ℤ z) (sum_where_push p ss s) ∙ sym (+ℤ_assoc (part p x) (sum_where p ss) (part p s))

-- a sum is within the sum of all absolute values
pub sum_bound : (p : List ℕ → Bool) (ss : List (Seen ℕ)) → nat_abs (sum_where p (weighed ss)) ≤ absolute ss
sum_bound p [] = omega arith
sum_bound p (s ∷ ss) =
    let rest : nat_abs (sum_where p (weighed ss)) ≤ absolute ss = sum_bound p ss in
    let whole : absolute (s ∷ ss) ≡ nat_abs s.value + absolute ss = sum_by-cons (λ (t : Seen ℕ). nat_abs t.value) s ss in
    rw whole
    (elim (not (int_eq s.value (pos 0))) as (λ b. nat_abs (sum_where p (cond b (s ∷ weighed ss) (weighed ss))) ≤ nat_abs s.value + absolute ss) [
      | true ↦ elim (p s.keys) as (λ b. nat_abs (cond b s.value (pos 0) +ℤ sum_where p (weighed ss)) ≤ nat_abs s.value + absolute ss) [
        | true ↦ omega (arith, triangle s.value (sum_where p (weighed ss)), rest)
        | false ↦ omega (arith, triangle (pos 0) (sum_where p (weighed ss)), rest)
      ]
      | false ↦ omega (arith, rest)
    ])

-- The samples so far, as they were added up: none has a number above theirs.
pub record Added (ss : List (Seen ℕ)) (i : ℕ) (at : ℕ → Tally) : Type 0 where
  pub tallies : (k : ℕ) → IsTallyOf (weighed ss) k (at k)
  pub earlier : (k : ℕ) → (at k).last ≤ i

weighed_push : (ss : List (Seen ℕ)) (s : Seen ℕ) → weighed (ss ++ s ∷ []) ≡ weighed ss ++ weighed (s ∷ [])
weighed_push ss s = filter-append (λ (t : Seen ℕ). not (int_eq t.value (pos 0))) ss (s ∷ [])

append-none : (ss : List (Seen ℕ)) → ss ++ [] ≡ ss
append-none [] = refl
append-none (s ∷ ss) = ap (λ r. s ∷ r) (append-none ss)

le_more : (m n : ℕ) → m ≤ n → m ≤ n + 1
le_more m n h = omega (arith, h)

-- a sample that is dropped leaves the tallies
pub added_same : (ss : List (Seen ℕ)) (i : ℕ) (at : ℕ → Tally) → Added ss i at → Added ss (i + 1) at
added_same ss i at a = record { tallies = a.tallies; earlier = λ k. omega (arith, a.earlier k) }

pushed : (p : List ℕ → Bool) (ss : List (Seen ℕ)) (s : Seen ℕ) (b : Bool) → p s.keys ≡ b
    → sum_where p ss +ℤ cond b s.value (pos 0) ≡ sum_where p (ss ++ s ∷ [])
pushed p ss s b is = ap (λ q. sum_where p ss +ℤ cond q s.value (pos 0)) (sym is) ∙ sym (sum_where_push p ss s)

pub occurs_push_or : (ss : List (Seen ℕ)) (s : Seen ℕ) (k : ℕ) (b : Bool) → has nat_cmp k s.keys ≡ b → (occurs nat_cmp ss k || b) ≡ occurs nat_cmp (ss ++ s ∷ []) k
occurs_push_or ss s k b is =
    ap (λ q. occurs nat_cmp ss k || q) (sym is ∙ sym (or-false (has nat_cmp k s.keys))) ∙ sym (list_any-append (λ (t : Seen ℕ). has nat_cmp k t.keys) ss (s ∷ []))

occurs_push : (ss : List (Seen ℕ)) (s : Seen ℕ) (k : ℕ) → has nat_cmp k s.keys ≡ true → true ≡ occurs nat_cmp (ss ++ s ∷ []) k
occurs_push ss s k is = sym (or-true (occurs nat_cmp ss k)) ∙ occurs_push_or ss s k true is

cum_last_bound : (v : ℤ) (number : ℕ) (keys : List ℕ) (k : ℕ) (t : Tally) → t.last ≤ number → (with_cum v number keys k t).last ≤ number
cum_last_bound v number keys k t below =
    elim (has nat_cmp k keys) as (λ (h : Bool). (cond h (record { flat = t.flat; cum = t.cum +ℤ v; last = number }) t).last ≤ number) [ true ↦ omega arith | false ↦ below ]

-- no sample has a greater number than the last
last_bound : (v : ℤ) (number : ℕ) (keys : List ℕ) (k : ℕ) (t : Tally) → t.last ≤ number → (with_sample v number keys k t).last ≤ number
last_bound v number keys k t below =
    elim (leads nat_cmp k keys) as (λ (l : Bool). (cond l
    (record { flat = (with_cum v number keys k t).flat +ℤ v; cum = (with_cum v number keys k t).cum; last = (with_cum v number keys k t).last }) (with_cum v number keys k t)).last ≤ number) [
      | true ↦ cum_last_bound v number keys k t below
      | false ↦ cum_last_bound v number keys k t below
    ]

-- the tally after one more sample
tally_after : (ss : List (Seen ℕ)) (s : Seen ℕ) (k number : ℕ) (t : Tally) (h l : Bool) → has nat_cmp k s.keys ≡ h → leads nat_cmp k s.keys ≡ l
    → 0 < number → IsTallyOf ss k t
    → IsTallyOf (ss ++ s ∷ []) k
    (cond l (record {
      flat = (cond h (record { flat = t.flat; cum = t.cum +ℤ s.value; last = number }) t).flat +ℤ s.value;
      cum = (cond h (record { flat = t.flat; cum = t.cum +ℤ s.value; last = number }) t).cum;
      last = (cond h (record { flat = t.flat; cum = t.cum +ℤ s.value; last = number }) t).last;
    }) (cond h (record { flat = t.flat; cum = t.cum +ℤ s.value; last = number }) t))
tally_after ss s k number t true true has_it leads_it some is = record {
  flat = ap (λ z. z +ℤ s.value) is.flat ∙ pushed (leads nat_cmp k) ss s true leads_it;
  cum = ap (λ z. z +ℤ s.value) is.cum ∙ pushed (has nat_cmp k) ss s true has_it;
  occurs = lt-ltb 0 number some ∙ occurs_push ss s k has_it;
}
tally_after ss s k number t true false has_it leads_it some is = record {
  flat = is.flat ∙ sym (+ℤ_idr (flat nat_cmp ss k)) ∙ pushed (leads nat_cmp k) ss s false leads_it;
  cum = ap (λ z. z +ℤ s.value) is.cum ∙ pushed (has nat_cmp k) ss s true has_it;
  occurs = lt-ltb 0 number some ∙ occurs_push ss s k has_it;
}
tally_after ss s k number t false true has_it leads_it some is = record {
  flat = ap (λ z. z +ℤ s.value) is.flat ∙ pushed (leads nat_cmp k) ss s true leads_it;
  cum = is.cum ∙ sym (+ℤ_idr (cum nat_cmp ss k)) ∙ pushed (has nat_cmp k) ss s false has_it;
  occurs = is.occurs ∙ sym (or-false (occurs nat_cmp ss k)) ∙ occurs_push_or ss s k false has_it;
}
tally_after ss s k number t false false has_it leads_it some is = record {
  flat = is.flat ∙ sym (+ℤ_idr (flat nat_cmp ss k)) ∙ pushed (leads nat_cmp k) ss s false leads_it;
  cum = is.cum ∙ sym (+ℤ_idr (cum nat_cmp ss k)) ∙ pushed (has nat_cmp k) ss s false has_it;
  occurs = is.occurs ∙ sym (or-false (occurs nat_cmp ss k)) ∙ occurs_push_or ss s k false has_it;
}

-- one more sample, of whichever value
pub added_more : (ss : List (Seen ℕ)) (s : Seen ℕ) (i : ℕ) (at new : ℕ → Tally) → Added ss i at
    → ((k : ℕ) → new k ≡ with_seen s.value (i + 1) s.keys k (at k))
    → Added (ss ++ s ∷ []) (i + 1) new
added_more ss s i at new a each = ⊎_elim
    (λ zero_value.
    let same : weighed (ss ++ s ∷ []) ≡ weighed ss =
    weighed_push ss s ∙ ap (λ b. weighed ss ++ cond (not b) (s ∷ []) []) zero_value ∙ append-none (weighed ss) in
    let kept : (k : ℕ) → new k ≡ at k = λ k. each k ∙ ap (λ b. cond b (at k) (with_sample s.value (i + 1) s.keys k (at k))) zero_value in
    record {
      tallies = λ k. subst (λ (r : List (Seen ℕ)). IsTallyOf r k (new k)) (sym same) (subst (λ (t : Tally). IsTallyOf (weighed ss) k t) (sym (kept k)) (a.tallies k));
      earlier = λ k. rw (kept k) (le_more (at k).last i (a.earlier k));
    })
    (λ some_value.
    let more : weighed (ss ++ s ∷ []) ≡ weighed ss ++ s ∷ [] = weighed_push ss s ∙ ap (λ b. weighed ss ++ cond (not b) (s ∷ []) []) some_value in
    let grown : (k : ℕ) → new k ≡ with_sample s.value (i + 1) s.keys k (at k) =
    λ k. each k ∙ ap (λ b. cond b (at k) (with_sample s.value (i + 1) s.keys k (at k))) some_value in
    record {
      tallies = λ k. subst (λ (r : List (Seen ℕ)). IsTallyOf r k (new k)) (sym more) (subst (λ (t : Tally). IsTallyOf (weighed ss ++ s ∷ []) k t) (sym (grown k))
          (tally_after (weighed ss) s k (i + 1) (at k) (has nat_cmp k s.keys) (leads nat_cmp k s.keys) refl refl (omega arith) (a.tallies k)));
      earlier = λ k. rw (grown k) (last_bound s.value (i + 1) s.keys k (at k) (omega (arith, a.earlier k)));
    })
    (cases_Bool (int_eq s.value (pos 0)))
