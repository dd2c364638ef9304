-- What a lane knows after a pop and after a steal.
use Rattle.std.proofs.Common.{◌≡◌, ◌≢◌, ℕ, ◌+◌, ◌<◌, ◌≤◌, ◌⊎◌, eqb, cond, Bool, true, false, List, [], ◌∷◌, ◌++◌, length, length-set, length-append, set, get_or, get_or-set_other, get_or-set_same, append-nil, map, sym, refl, ap, ◌∙◌, subst, inl, inr, ⊎_elim, arith, eq-eqb, ne_eqb, filter}
use native.Mathlib.Decide.{ℕ_discrete}
use Rattle.std.proofs.Math.Seq.{map-set_same}
use Rattle.std.proofs.lemmas.List.{map-set, get_or-map, length-map}
use borrow.Author.Tests.{eqb-true}
use Rattle.crossbeam_deque.specs.Handles.{view, IsPassOf, SamePass, stealer_deque}
use Rattle.std.specs.declared.alloc.Global.{Global}
use Rattle.pp_steal.specs.declared.deal.Deal.{Deal}
use Rattle.pp_steal.specs.declared.view.View.{View}
use Rattle.pp_steal.specs.declared.chair.Chair.{Chair}
use Rattle.pp_steal.specs.Pool.{count_in, TakesPieces}
use Rattle.pp_steal.specs.Dealing.{is_of, lane_of, upto, AreDistinctPieces}
use Rattle.pp_steal.specs.Lanes.{Sits, AllSit, Tends, deque_of}
use Rattle.pp_steal.proofs.Keeps.{times-append}
use Rattle.pp_steal.proofs.Dealt.{times-filter, filter-append, times-one, times-other, times-upto, few_pieces}

-- a piece that a view took anew is of that lane's deal, and new to the list whose part the view has
pub record IsNew (p : ℕ → Bool) (pieces : ℕ) (taken : List ℕ) (x : ℕ) : Type 0 where
  pub of : p x ≡ true
  pub absent : count_in x taken ≡ 0
  pub distinct : AreDistinctPieces pieces (taken ++ x ∷ [])
  pub room : length taken < pieces

true_of : (b : Bool) (n m : ℕ) → n + 1 ≤ cond b m 0 → b ≡ true
true_of true n m h = refl
true_of false n m h = absurd (omega arith)

pub is_new : (p : ℕ → Bool) (pieces : ℕ) (taken part dealt : List ℕ) (x : ℕ) → AreDistinctPieces pieces taken → part ≡ filter p taken → dealt ≡ filter p (upto pieces)
    → ((y : ℕ) → count_in y (part ++ x ∷ []) ≤ count_in y dealt) → IsNew p pieces taken x
is_new p pieces taken part dealt x once part_is dealt_is fit =
    let a : count_in x part ≡ cond (p x) (count_in x taken) 0 = ap (count_in x) part_is ∙ times-filter p x taken in
    let b : count_in x dealt ≡ cond (p x) (count_in x (upto pieces)) 0 = ap (count_in x) dealt_is ∙ times-filter p x (upto pieces) in
    let f = fit x in
    let one = times-one x in
    let s = times-append x part (x ∷ []) in
    let of : p x ≡ true = true_of (p x) (count_in x part) (count_in x (upto pieces)) (omega arith) in
    let a' : count_in x part ≡ count_in x taken = a ∙ ap (λ (c : Bool). cond c (count_in x taken) 0) of in
    let b' : count_in x dealt ≡ count_in x (upto pieces) = b ∙ ap (λ (c : Bool). cond c (count_in x (upto pieces)) 0) of in
    let most = (times-upto x pieces).1 in
    let all : AreDistinctPieces pieces (taken ++ x ∷ []) = λ y. let t = times-append y taken (x ∷ []) in let o = once y in
    elim (ℕ_discrete y x) as (λ _. count_in y (taken ++ x ∷ []) ≤ count_in y (upto pieces)) [
      | yes e ↦ subst (λ (k : ℕ). count_in k (taken ++ x ∷ []) ≤ count_in k (upto pieces)) (sym e) (let t' = times-append x taken (x ∷ []) in omega arith)
      | no e ↦ let n = times-other y x e in omega arith
    ] in
    let few = few_pieces pieces (taken ++ x ∷ []) all in
    record { of = of; absent = omega arith; distinct = all; room = omega (arith, length-append taken (x ∷ [])) }

filter_yes : (p : ℕ → Bool) (x : ℕ) (taken : List ℕ) → p x ≡ true → filter p (taken ++ x ∷ []) ≡ filter p taken ++ x ∷ []
filter_yes p x taken e = filter-append p taken (x ∷ []) ∙ ap (λ (b : Bool). filter p taken ++ cond b (x ∷ []) []) e

filter_no : (p : ℕ → Bool) (x : ℕ) (taken : List ℕ) → p x ≡ false → filter p (taken ++ x ∷ []) ≡ filter p taken
filter_no p x taken e = filter-append p taken (x ∷ []) ∙ ap (λ (b : Bool). filter p taken ++ cond b (x ∷ []) []) e ∙ append-nil (filter p taken)

-- a piece of one lane's deal is of no other's
apart : (deal : Deal) (lanes lane other x : ℕ) → is_of deal lanes lane x ≡ true → other ≢ lane → is_of deal lanes other x ≡ false
apart deal lanes lane other x e n = ne_eqb (lane_of deal lanes x) other (λ k. n (sym k ∙ eqb-true (lane_of deal lanes x) lane e))

-- a chair of another lane knows as much as before
sits_still : (deal : Deal) (lanes pieces own lane x : ℕ) (taken : List ℕ) (j : ℕ) (c : Chair) → is_of deal lanes lane x ≡ true → ((j ≡ own) ⊎ (j ≢ lane)) → Sits deal lanes pieces own taken j c → Sits deal lanes pieces own (taken ++ x ∷ []) j c
sits_still deal lanes pieces own lane x taken j c of which s = record {
  pass = s.pass;
  guest = s.guest;
  dealt = s.dealt;
  took = ⊎_elim (λ (e : j ≡ own). s.took ∙ ap (λ (b : Bool). cond b [] (filter (is_of deal lanes j) taken)) (eq-eqb j own e) ∙ sym (ap (λ (b : Bool). cond b [] (filter (is_of deal lanes j) (taken ++ x ∷ []))) (eq-eqb j own e)))
      (λ (n : j ≢ lane). s.took ∙ ap (λ (l : List ℕ). cond (eqb j own) [] l) (sym (filter_no (is_of deal lanes j) x taken (apart deal lanes lane j x of n)))) which;
}

pub after_pop : (deal : Deal) (pieces own : ℕ) (taken : List ℕ) (mine mine' : View) (chairs : List Chair) (x : ℕ) → Tends deal pieces own taken mine chairs → TakesPieces mine (x ∷ []) mine'
    → IsNew (is_of deal (length chairs) own) pieces taken x × Tends deal pieces own (taken ++ x ∷ []) mine' chairs
after_pop deal pieces own taken mine mine' chairs x t step =
    let p = is_of deal (length chairs) own in
    let fit : (y : ℕ) → count_in y (mine.taken ++ x ∷ []) ≤ count_in y mine.dealt = λ y. subst (λ (v : View). count_in y v.taken ≤ count_in y v.dealt) step.0 (step.1 y) in
    let new : IsNew p pieces taken x = is_new p pieces taken mine.taken mine.dealt x t.distinct t.took t.dealt fit in (
      new,
      record {
        below = t.below;
        few = t.few;
        distinct = new.distinct;
        marked = ap (λ (v : View). v.role) step.0 ∙ t.marked;
        dealt = ap (λ (v : View). v.dealt) step.0 ∙ t.dealt;
        took = ap (λ (v : View). v.taken) step.0 ∙ ap (λ (l : List ℕ). l ++ x ∷ []) t.took ∙ sym (filter_yes p x taken new.of);
        sit = λ j c lt. sits_still deal (length chairs) pieces own own x taken j (get_or chairs j c) new.of (elim (ℕ_discrete j own) as (λ _. (j ≡ own) ⊎ (j ≢ own)) [ yes e ↦ inl e | no n ↦ inr n ]) (t.sit j c lt);
      },
    )

still_pass : (c c' : Chair) → c'.thief ≡ c.thief → SamePass c.pass c'.pass → IsPassOf (stealer_deque c.thief) c.pass → IsPassOf (stealer_deque c'.thief) c'.pass
still_pass c c' thief same is = rw thief (same.0 ∙ is.0, same.1 ∙ is.1, same.3, same.4)

-- one chair changes, and sits; so do the others
sit_set : (deal : Deal) (lanes pieces own : ℕ) (taken : List ℕ) (chairs : List Chair) (from : ℕ) (c' : Chair) → from < length chairs → Sits deal lanes pieces own taken from c'
    → ((j : ℕ) (d : Chair) → j < length chairs → j ≢ from → Sits deal lanes pieces own taken j (get_or chairs j d)) → AllSit deal lanes pieces own taken (set chairs from c')
sit_set deal lanes pieces own taken chairs from c' lt mine others j d below =
    elim (ℕ_discrete j from) as (λ _. Sits deal lanes pieces own taken j (get_or (set chairs from c') j d)) [
      | yes e ↦ subst (λ (k : ℕ). Sits deal lanes pieces own taken k (get_or (set chairs from c') k d)) (sym e) (subst (Sits deal lanes pieces own taken from) (sym (get_or-set_same chairs from c' d lt)) mine)
      | no n ↦ subst (Sits deal lanes pieces own taken j) (sym (get_or-set_other chairs from j c' d n)) (others j d (omega (arith, length-set chairs from c')) n)
    ]

-- the part of what was taken that a chair at another lane's deque knows
away : (j own : ℕ) (l : List ℕ) → j ≢ own → cond (eqb j own) [] l ≡ l
away j own l n = ap (λ (b : Bool). cond b [] l) (ne_eqb j own n)

pub after_steal : (deal : Deal) (pieces own : ℕ) (taken : List ℕ) (mine : View) (chairs : List Chair) (from : ℕ) (c c' : Chair) (x : ℕ) → Tends deal pieces own taken mine chairs
    → from < length chairs → from ≢ own → c ≡ get_or chairs from c → (c'.thief ≡ c.thief) × SamePass c.pass c'.pass → TakesPieces (view c.pass) (x ∷ []) (view c'.pass)
    → IsNew (is_of deal (length chairs) from) pieces taken x × Tends deal pieces own (taken ++ x ∷ []) mine (set chairs from c')
after_steal deal pieces own taken mine chairs from c c' x t lt other is same step =
    let lanes : ℕ = length chairs in
    let p = is_of deal lanes from in
    let s : Sits deal lanes pieces own taken from c = subst (Sits deal lanes pieces own taken from) (sym is) (t.sit from c lt) in
    let part : (view c.pass).taken ≡ filter p taken = s.took ∙ away from own (filter p taken) other in
    let fit : (y : ℕ) → count_in y ((view c.pass).taken ++ x ∷ []) ≤ count_in y (view c.pass).dealt = λ y. subst (λ (v : View). count_in y v.taken ≤ count_in y v.dealt) step.0 (step.1 y) in
    let new : IsNew p pieces taken x = is_new p pieces taken (view c.pass).taken (view c.pass).dealt x t.distinct part s.dealt fit in
    let mine' : Sits deal lanes pieces own (taken ++ x ∷ []) from c' = record {
      pass = still_pass c c' same.0 same.1 s.pass;
      guest = ap (λ (v : View). v.role) step.0 ∙ s.guest;
      dealt = ap (λ (v : View). v.dealt) step.0 ∙ s.dealt;
      took = ap (λ (v : View). v.taken) step.0 ∙ ap (λ (l : List ℕ). l ++ x ∷ []) part ∙ sym (filter_yes p x taken new.of) ∙ sym (away from own (filter p (taken ++ x ∷ [])) other);
    } in
    let all : AllSit deal lanes pieces own (taken ++ x ∷ []) (set chairs from c') = sit_set deal lanes pieces own (taken ++ x ∷ []) chairs from c' lt mine'
    (λ j d below n. sits_still deal lanes pieces own from x taken j (get_or chairs j d) new.of (inr n) (t.sit j d below)) in (
      new,
      record {
        below = rw (length-set chairs from c') t.below;
        few = rw (length-set chairs from c') t.few;
        distinct = new.distinct;
        marked = t.marked;
        dealt = rw (length-set chairs from c') t.dealt;
        took = rw (length-set chairs from c') (t.took ∙ sym (filter_no (is_of deal lanes own) x taken (apart deal lanes from own x new.of (λ e. other (sym e)))));
        sit = subst (λ (n : ℕ). AllSit deal n pieces own (taken ++ x ∷ []) (set chairs from c')) (sym (length-set chairs from c')) all;
      },
    )

-- what a lane's callers see of its chairs
pub deques_set : (chairs : List Chair) (from : ℕ) (c c' : Chair) → c ≡ get_or chairs from c → c'.thief ≡ c.thief → map deque_of (set chairs from c') ≡ map deque_of chairs
deques_set chairs from c c' is thief = map-set_same deque_of chairs from c' c (ap (λ t. (stealer_deque t).0) thief ∙ ap deque_of is)

pub misses_other : (chairs : List Chair) (from : ℕ) (c' : Chair) (lane : ℕ) → lane ≢ from → get_or (map (λ (c : Chair). c.misses) (set chairs from c')) lane 0 ≡ get_or (map (λ (c : Chair). c.misses) chairs) lane 0
misses_other chairs from c' lane n = let f = λ (c : Chair). c.misses in ap (λ (l : List ℕ). get_or l lane 0) (map-set f chairs from c') ∙ get_or-set_other (map f chairs) from lane c'.misses 0 n

pub misses_same : (chairs : List Chair) (from : ℕ) (c' : Chair) → from < length chairs → get_or (map (λ (c : Chair). c.misses) (set chairs from c')) from 0 ≡ c'.misses
misses_same chairs from c' lt = let f = λ (c : Chair). c.misses in ap (λ (l : List ℕ). get_or l from 0) (map-set f chairs from c') ∙ get_or-set_same (map f chairs) from c'.misses 0 (omega (arith, length-map chairs f))

pub misses_at : (chairs : List Chair) (from : ℕ) (c : Chair) → from < length chairs → c ≡ get_or chairs from c → get_or (map (λ (c : Chair). c.misses) chairs) from 0 ≡ c.misses
misses_at chairs from c lt is = get_or-map (λ (c : Chair). c.misses) chairs from c 0 lt ∙ ap (λ (c : Chair). c.misses) (sym is)

-- the thief at the own deque stays
pub home_set : (chairs : List Chair) (from : ℕ) (c' : Chair) (own : ℕ) → from ≢ own → (home : (ℕ × ℕ) × Global) → ((d : Chair) → home ≡ stealer_deque (get_or chairs own d).thief)
    → (d : Chair) → home ≡ stealer_deque (get_or (set chairs from c') own d).thief
home_set chairs from c' own other home h d = h d ∙ ap (λ (k : Chair). stealer_deque k.thief) (sym (get_or-set_other chairs from own c' d (λ e. other (sym e))))

pub place : (chairs : List Chair) (deques : List (ℕ × ℕ)) (from : ℕ) → map deque_of chairs ≡ deques → from < length deques → from < length chairs
place chairs deques from e lt = let k : length (map deque_of chairs) ≡ length deques = ap length e in omega (arith, length-map chairs deque_of)
