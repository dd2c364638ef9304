-- Chains of numbers: what a cut and a new first number leave of them.
use Rattle.std.proofs.Common.{◌≡◌, ◌≢◌, ℕ, zero, suc, eqb, ◌+◌, ◌<◌, ◌≤◌, Bool, true, false, cond, not, List, [], ◌∷◌, length, Option, Some, None, inl, inr, ◌⊎◌, refl, sym, ap, subst, ◌∙◌, arith}
use Rattle.std.specs.List.{filter, slice_get}
use Rattle.std.proofs.lemmas.Bool.{cases_eq, eq-eqb, eqb-true, eqb-false, false≢true}
use Rattle.std.proofs.lemmas.Option.{same_Some, none-some}
use Rattle.std.proofs.lemmas.List.Sums.{sum_by-cons}
use Rattle.pp_graph.specs.Lists.{occurrences, leave_out}
use Rattle.pp_graph.specs.Chains.{walk, holds_number, IsChain}

-- two numbers that are not the same do not pass for the same
pub eqb-not : (a b : ℕ) → a ≢ b → eqb a b ≡ false
eqb-not a b apart = elim (eqb a b) as (λ t. eqb a b ≡ t → t ≡ false) [
  | true ↦ λ e. absurd (apart (eqb-true a b e))
  | false ↦ λ _. refl
] refl

pub times-cons : (e x : ℕ) (list : List ℕ) → occurrences e (x ∷ list) ≡ cond (eqb x e) 1 0 + occurrences e list
times-cons e x list = sum_by-cons (λ k. cond (eqb k e) 1 0) x list

pub times-here : (e x : ℕ) (list : List ℕ) → x ≡ e → occurrences e (x ∷ list) ≡ 1 + occurrences e list
times-here e x list is = times-cons e x list ∙ ap (λ b. cond b 1 0 + occurrences e list) (eq-eqb x e is)

pub times-there : (e x : ℕ) (list : List ℕ) → x ≢ e → occurrences e (x ∷ list) ≡ occurrences e list
times-there e x list apart = times-cons e x list ∙ ap (λ b. cond b 1 0 + occurrences e list) (eqb-not x e apart) ∙ omega arith

pub times-more : (e x : ℕ) (list : List ℕ) → occurrences e list ≤ occurrences e (x ∷ list)
times-more e x list = elim (cases_eq x e) [
  | inl is ↦ omega (arith, times-here e x list is)
  | inr apart ↦ omega (arith, times-there e x list apart)
]

-- a number that stands among others isn't one that does not
pub apart_by : (x e : ℕ) (list : List ℕ) → occurrences x list ≡ 0 → 0 < occurrences e list → x ≢ e
apart_by x e list none some is = let same : occurrences x list ≡ occurrences e list = ap (λ k. occurrences k list) is in omega (arith, same, none, some)

-- no number of the list stands in it twice
abbrev pub IsApart : List ℕ → Type 0
IsApart list = (k : ℕ) → occurrences k list ≤ 1

pub apart_tail : (x : ℕ) (list : List ℕ) → IsApart (x ∷ list) → IsApart list
apart_tail x list apart k = omega (arith, apart k, times-more k x list)

pub apart_head : (x : ℕ) (list : List ℕ) → IsApart (x ∷ list) → occurrences x list ≡ 0
apart_head x list apart = omega (arith, apart x, times-here x x list refl)

pub number_is : (place : Option ℕ) (k : ℕ) → place ≡ Some k → holds_number place k ≡ true
number_is None k is = absurd (none-some k is)
number_is (Some x) k is = eq-eqb x k (same_Some x k is)

pub number_not : (place : Option ℕ) (k : ℕ) → place ≢ Some k → holds_number place k ≡ false
number_not None k apart = refl
number_not (Some x) k apart = eqb-not x k (λ is. apart (ap Some is))

pub leave_out-here : (e x : ℕ) (list : List ℕ) → x ≡ e → leave_out e (x ∷ list) ≡ leave_out e list
leave_out-here e x list same = ap (λ b. cond (not b) (x ∷ leave_out e list) (leave_out e list)) (eq-eqb x e same)

pub leave_out-there : (e x : ℕ) (list : List ℕ) → x ≢ e → leave_out e (x ∷ list) ≡ x ∷ leave_out e list
leave_out-there e x list apart = ap (λ b. cond (not b) (x ∷ leave_out e list) (leave_out e list)) (eqb-not x e apart)

pub leave_out_absent : (e : ℕ) (list : List ℕ) → occurrences e list ≡ 0 → leave_out e list ≡ list
leave_out_absent e [] none = refl
leave_out_absent e (x ∷ list) none =
    leave_out-there e x list (λ same. omega (arith, none, times-here e x list same))
    ∙ ap (λ l. x ∷ l) (leave_out_absent e list (omega (arith, none, times-more e x list)))

module _ (next prev : ℕ → Option ℕ) where
  pub first_is : (before place : Option ℕ) (list : List ℕ) → IsChain next prev before place list → place ≡ slice_get list 0
  first_is before place [] c = c
  first_is before place (x ∷ list) c = c.0

  -- the number after one stands at the next place
  pub next_is : (before place : Option ℕ) (list : List ℕ) (i e : ℕ) → IsChain next prev before place list → slice_get list i ≡ Some e → next e ≡ slice_get list (suc i)
  next_is before place [] i e c at = absurd (none-some e at)
  next_is before place (x ∷ list) zero e c at = ap next (sym (same_Some x e at)) ∙ first_is (Some x) (next x) list c.2
  next_is before place (x ∷ list) (suc i) e c at = next_is (Some x) (next x) list i e c.2 at

  pub first_in : (before place : Option ℕ) (list : List ℕ) (k : ℕ) → IsChain next prev before place list → place ≡ Some k → 0 < occurrences k list
  first_in before place [] k c is = absurd (none-some k (sym c ∙ is))
  first_in before place (x ∷ list) k c is = omega (arith, times-here k x list (same_Some x k (sym c.0 ∙ is)))

  -- the number after one of the list is one of the list
  pub next_in : (before place : Option ℕ) (list : List ℕ) (e k : ℕ) → IsChain next prev before place list → 0 < occurrences e list → next e ≡ Some k → 0 < occurrences k list
  next_in before place [] e k c some is = absurd (omega (arith, some))
  next_in before place (x ∷ list) e k c some is = elim (cases_eq x e) [
    | inl same ↦ omega (arith, times-more k x list, first_in (Some x) (next x) list k c.2 (ap next same ∙ is))
    | inr apart ↦ omega (arith, times-more k x list, next_in (Some x) (next x) list e k c.2 (omega (arith, some, times-there e x list apart)) is)
  ]

  -- the number before one of the list is one of the list, or what stands before it
  pub prev_in : (before place : Option ℕ) (list : List ℕ) (e k : ℕ) → IsChain next prev before place list → 0 < occurrences e list → prev e ≡ Some k → (before ≡ Some k) ⊎ (0 < occurrences k list)
  prev_in before place [] e k c some is = absurd (omega (arith, some))
  prev_in before place (x ∷ list) e k c some is = elim (cases_eq x e) [
    | inl same ↦ inl (sym c.1 ∙ ap prev same ∙ is)
    | inr apart ↦ elim (prev_in (Some x) (next x) list e k c.2 (omega (arith, some, times-there e x list apart)) is) [
      | inl here ↦ inr (omega (arith, times-here k x list (same_Some x k here)))
      | inr there ↦ inr (omega (arith, times-more k x list, there))
    ]
  ]

  -- only the first of a list that nothing stands before has none before it
  prev_some : (before : ℕ) (place : Option ℕ) (list : List ℕ) (e : ℕ) → IsChain next prev (Some before) place list → 0 < occurrences e list → prev e ≢ None
  prev_some before place [] e c some is = omega (arith, some)
  prev_some before place (x ∷ list) e c some is = elim (cases_eq x e) [
    | inl same ↦ none-some before (sym is ∙ ap prev (sym same) ∙ c.1)
    | inr apart ↦ prev_some x (next x) list e c.2 (omega (arith, some, times-there e x list apart)) is
  ]

  -- the first has before it what stands before the list
  pub prev_of_first : (before place : Option ℕ) (list : List ℕ) (e : ℕ) → IsChain next prev before place list → place ≡ Some e → prev e ≡ before
  prev_of_first before place [] e c is = absurd (none-some e (sym c ∙ is))
  prev_of_first before place (x ∷ list) e c is = ap prev (same_Some e x (sym is ∙ c.0)) ∙ c.1

  -- and no other has
  pub first_by_prev : (before place : Option ℕ) (list : List ℕ) (e : ℕ) → IsChain next prev before place list → 0 < occurrences e list
      → ((k : ℕ) → before ≡ Some k → occurrences k list ≡ 0) → prev e ≡ before → place ≡ Some e
  first_by_prev before place [] e c some out is = absurd (omega (arith, some))
  first_by_prev None place (x ∷ list) e c some out is = elim (cases_eq x e) [
    | inl same ↦ c.0 ∙ ap Some same
    | inr apart ↦ absurd (prev_some x (next x) list e c.2 (omega (arith, some, times-there e x list apart)) is)
  ]
  first_by_prev (Some w) place (x ∷ list) e c some out is = elim (cases_eq x e) [
    | inl same ↦ c.0 ∙ ap Some same
    | inr apart ↦ elim (prev_in (Some x) (next x) list e w c.2 (omega (arith, some, times-there e x list apart)) is) [
      | inl here ↦ absurd (omega (arith, out w refl, times-here w x list (same_Some x w here)))
      | inr there ↦ absurd (omega (arith, out w refl, times-more w x list, there))
    ]
  ]

  -- a walk over enough numbers goes over the whole chain
  pub walk_chain : (most : ℕ) (before place : Option ℕ) (list : List ℕ) → IsChain next prev before place list → length list ≤ most → walk next most place ≡ list
  walk_chain zero before place [] c short = refl
  walk_chain (suc most) before place [] c short = ap (λ p. walk next (suc most) p) c
  walk_chain zero before place (x ∷ list) c short = absurd (omega (arith, short))
  walk_chain (suc most) before place (x ∷ list) c short =
      ap (λ p. walk next (suc most) p) c.0 ∙ ap (λ l. x ∷ l) (walk_chain most (Some x) (next x) list c.2 (omega (arith, short)))

  pub length-walk : (most : ℕ) (place : Option ℕ) → length (walk next most place) ≤ most
  length-walk zero place = omega arith
  length-walk (suc most) None = omega arith
  length-walk (suc most) (Some e) = omega (arith, length-walk most (next e))

  module _ (next' prev' : ℕ → Option ℕ) where
    -- a chain stays one where nothing beside its numbers changes
    pub same_chain : (before place : Option ℕ) (list : List ℕ) → ((k : ℕ) → 0 < occurrences k list → (next' k ≡ next k) × (prev' k ≡ prev k))
        → IsChain next prev before place list → IsChain next' prev' before place list
    same_chain before place [] same c = c
    same_chain before place (x ∷ list) same c =
        let here : (next' x ≡ next x) × (prev' x ≡ prev x) = same x (omega (arith, times-here x x list refl)) in (
          c.0,
          here.1 ∙ c.1,
          subst (λ p. IsChain next' prev' (Some x) p list) (sym here.0)
              (same_chain (Some x) (next x) list (λ k some. same k (omega (arith, times-more k x list, some))) c.2),
        )

    -- the number after e has before it what e has, and the number before e has after it what e has
    pub record Bridges (e : ℕ) : Type 0 where
      pub next_hit : (k : ℕ) → prev e ≡ Some k → next' k ≡ next e
      pub next_miss : (k : ℕ) → prev e ≢ Some k → next' k ≡ next k
      pub prev_hit : (k : ℕ) → next e ≡ Some k → prev' k ≡ prev e
      pub prev_miss : (k : ℕ) → next e ≢ Some k → prev' k ≡ prev k

    cut_first : (e : ℕ) (before : Option ℕ) (list : List ℕ) → Bridges e → IsApart (e ∷ list) → ((k : ℕ) → before ≡ Some k → occurrences k (e ∷ list) ≡ 0)
        → prev e ≡ before → IsChain next prev (Some e) (next e) list → IsChain next' prev' before (next e) list
    cut_first e before [] b apart out at c = c
    cut_first e before (y ∷ list) b apart out at c =
        let miss : (k : ℕ) → 0 < occurrences k (y ∷ list) → prev e ≢ Some k =
        λ k some is. omega (arith, some, times-more k e (y ∷ list), out k (sym at ∙ is)) in
        let far : (k : ℕ) → 0 < occurrences k list → next e ≢ Some k =
        λ k some is. omega (arith, some, times-here k y list (same_Some y k (sym c.0 ∙ is)), apart_tail e (y ∷ list) apart k) in (
          c.0,
          b.prev_hit y c.0 ∙ at,
          subst (λ p. IsChain next' prev' (Some y) p list) (sym (b.next_miss y (miss y (omega (arith, times-here y y list refl)))))
              (same_chain (Some y) (next y) list
              (λ k some. (b.next_miss k (miss k (omega (arith, some, times-more k y list))), b.prev_miss k (far k some))) c.2),
        )

    -- what is left of a chain once the numbers beside e pass it over
    pub cut_chain : (e : ℕ) (before place place' : Option ℕ) (list : List ℕ) → Bridges e → IsApart list → ((k : ℕ) → before ≡ Some k → occurrences k list ≡ 0)
        → 0 < occurrences e list → (place ≡ Some e → place' ≡ next e) → (place ≢ Some e → place' ≡ place)
        → IsChain next prev before place list → IsChain next' prev' before place' (leave_out e list)
    cut_chain e before place place' [] b apart out some hit miss c = absurd (omega (arith, some))
    cut_chain e before place place' (x ∷ list) b apart out some hit miss c = elim (cases_eq x e) [
      | inl same ↦ subst (λ l. IsChain next' prev' before place' l) (sym (leave_out-here e x list same ∙ leave_out_absent e list (ap (λ k. occurrences k list) (sym same) ∙ apart_head x list apart)))
          (subst (λ p. IsChain next' prev' before p list) (sym (hit (c.0 ∙ ap Some same)))
          (cut_first e before list b (subst (λ k. IsApart (k ∷ list)) same apart) (subst (λ k. (j : ℕ) → before ≡ Some j → occurrences j (k ∷ list) ≡ 0) same out)
          (ap prev (sym same) ∙ c.1) (subst (λ k. IsChain next prev (Some k) (next k) list) same c.2)))
      | inr apart_x ↦
          let some' : 0 < occurrences e list = omega (arith, some, times-there e x list apart_x) in
          let lone : occurrences x list ≡ 0 = apart_head x list apart in
          subst (λ l. IsChain next' prev' before place' l) (sym (leave_out-there e x list apart_x)) (
            miss (λ is. apart_x (same_Some x e (sym c.0 ∙ is))) ∙ c.0,
            b.prev_miss x (λ is. omega (arith, lone, next_in (Some x) (next x) list e x c.2 some' is)) ∙ c.1,
            cut_chain e (Some x) (next x) (next' x) list b (apart_tail x list apart) (λ k is. ap (λ j. occurrences j list) (sym (same_Some x k is)) ∙ lone) some'
                (λ is. b.next_hit x (prev_of_first (Some x) (next x) list e c.2 is))
                (λ not_e. b.next_miss x (λ is. not_e (first_by_prev (Some x) (next x) list e c.2 some' (λ k at. ap (λ j. occurrences j list) (sym (same_Some x k at)) ∙ lone) is)))
                c.2,
          )
    ]

    -- a chain with a new first number
    pub pushed_chain : (e : ℕ) (place : Option ℕ) (list : List ℕ) → occurrences e list ≡ 0 → IsApart list
        → next' e ≡ place → ((k : ℕ) → k ≢ e → next' k ≡ next k)
        → prev' e ≡ None → ((k : ℕ) → place ≡ Some k → prev' k ≡ Some e) → ((k : ℕ) → k ≢ e → place ≢ Some k → prev' k ≡ prev k)
        → IsChain next prev None place list → IsChain next' prev' None (Some e) (e ∷ list)
    pushed_chain e place [] new apart at others none hit miss c = (refl, none, at ∙ c)
    pushed_chain e place (x ∷ list) new apart at others none hit miss c =
        let other : (k : ℕ) → 0 < occurrences k (x ∷ list) → k ≢ e = λ k some is. apart_by e k (x ∷ list) new some (sym is) in (
          refl,
          none,
          (
            at ∙ c.0,
            hit x c.0,
            subst (λ p. IsChain next' prev' (Some x) p list) (sym (others x (other x (omega (arith, times-here x x list refl)))))
                (same_chain (Some x) (next x) list
                (λ k some. (
                  others k (other k (omega (arith, some, times-more k x list))),
                  miss k (other k (omega (arith, some, times-more k x list))) (λ is. omega (arith, some, apart_head x list apart, ap (λ j. occurrences j list) (same_Some x k (sym c.0 ∙ is)))),
                )) c.2),
          ),
        )

pub times-leave_out : (e k : ℕ) (list : List ℕ) → occurrences k (leave_out e list) ≡ cond (eqb k e) 0 (occurrences k list)
times-leave_out e k [] = elim (eqb k e) as (λ b. ◌≡◌ {A = ℕ} 0 (cond b 0 0)) [ true ↦ refl | false ↦ refl ]
times-leave_out e k (x ∷ list) = elim (cases_eq x e) [
  | inl same ↦ ap (occurrences k) (leave_out-here e x list same) ∙ times-leave_out e k list ∙ elim (cases_eq k e) [
    | inl is ↦ ap (λ b. cond b 0 (occurrences k list)) (eq-eqb k e is) ∙ ap (λ b. cond b 0 (occurrences k (x ∷ list))) (sym (eq-eqb k e is))
    | inr no_is ↦ ap (λ n. cond (eqb k e) 0 n) (sym (times-there k x list (λ at. no_is (sym at ∙ same))))
  ]
  | inr apart ↦ ap (occurrences k) (leave_out-there e x list apart) ∙ times-cons k x (leave_out e list) ∙ ap (λ n. cond (eqb x k) 1 0 + n) (times-leave_out e k list)
      ∙ elim (cases_eq k e) [
        | inl is ↦ ap (λ b. cond (eqb x k) 1 0 + cond b 0 (occurrences k list)) (eq-eqb k e is) ∙ ap (λ b. cond b 1 0 + 0) (eqb-not x k (λ at. apart (at ∙ is))) ∙ ap (λ b. cond b 0 (occurrences k (x ∷ list))) (sym (eq-eqb k e is))
        | inr no_is ↦ ap (λ b. cond (eqb x k) 1 0 + cond b 0 (occurrences k list)) (eqb-not k e no_is) ∙ sym (times-cons k x list) ∙ ap (λ b. cond b 0 (occurrences k (x ∷ list))) (sym (eqb-not k e no_is))
      ]
]

pub length-leave_out : (e : ℕ) (list : List ℕ) → length (leave_out e list) ≤ length list
length-leave_out e [] = omega arith
length-leave_out e (x ∷ list) = elim (cases_eq x e) [
  | inl same ↦ omega (arith, ap length (leave_out-here e x list same), length-leave_out e list)
  | inr apart ↦ omega (arith, ap length (leave_out-there e x list apart), length-leave_out e list)
]
