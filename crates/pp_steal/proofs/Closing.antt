-- What is learned at the end.
use Rattle.std.proofs.Common.{◌≡◌, ℕ, zero, suc, ◌+◌, ◌<◌, ◌≤◌, eqb, cond, Bool, true, List, [], ◌∷◌, ◌++◌, Option, Some, None, length, set, get_or, get_or-set_same, get_or-set_other, take, map, sym, refl, ap, ◌∙◌, subst, arith, add-one, MatchOption, eq-eqb, ne_eqb, filter}
use native.Mathlib.Decide.{ℕ_discrete}
use Rattle.std.specs.declared.alloc.Global.{Global}
use Rattle.std.specs.declared.vec.Vec.{Vec}
use Rattle.std.proofs.Math.Seq.{take-suc}
use Rattle.std.proofs.lemmas.List.{get_or-take, length-take-le, take-take}
use Rattle.crossbeam_deque.specs.Handles.{view, IsPassOf, worker_deque, worker_view}
use Rattle.crossbeam_deque.specs.declared.handles.Worker.{Worker}
use Rattle.pp_steal.specs.declared.view.Role.{Role}
use Rattle.pp_steal.specs.declared.view.Role.TheVariants.{Marked, Guest}
use Rattle.pp_steal.specs.declared.view.View.{View}
use Rattle.pp_steal.specs.declared.view.OnceEach.{OnceEach}
use Rattle.pp_steal.specs.declared.deal.Deal.{Deal}
use Rattle.pp_steal.specs.declared.deal.Deal.TheVariants.{Round, First}
use Rattle.pp_steal.specs.declared.chair.Chair.{Chair}
use Rattle.pp_steal.specs.Pool.{count_in, took, TakesPieces, TookDealt, TakesPart}
use Rattle.pp_steal.specs.Dealing.{is_of, lane_of, upto, dealt_to}
use Rattle.pp_steal.specs.Lanes.{AllSit, Deques}
use Rattle.pp_steal.specs.Closing.{times_in, chair_taken, times_at, RowEndsAt, AllEndAt, AreParts, AreGivenOnce, IsLearned}
use Rattle.pp_steal.proofs.Keeps.{times-append}
use Rattle.pp_steal.proofs.Dealt.{times-filter}
use Rattle.pp_steal.proofs.Making.{as_many, lane_home}

pub live_at : (r : Role) → r ≡ Marked → TakesPart r
live_at r e = subst TakesPart (sym e) tt

-- a view that took some more: what it took before was no more
pub took_dealt : (v w : View) (xs : List ℕ) → TakesPieces v xs w → TookDealt v
took_dealt v w xs step x = let a = subst (λ (u : View). count_in x u.taken ≤ count_in x u.dealt) step.0 (step.1 x) in omega (arith, times-append x v.taken xs)

chair_taken_at : (lane : ℕ) (chairs : List Chair) (c : Chair) → lane < length chairs → chair_taken lane chairs ≡ (view (get_or chairs lane c).pass).taken
chair_taken_at lane [] c lt = absurd (omega arith)
chair_taken_at zero (x ∷ chairs) c lt = refl
chair_taken_at (suc lane) (x ∷ chairs) c lt = chair_taken_at lane chairs c (omega arith)

-- the chair that comes off the row
pub last_is : (home : (ℕ × ℕ) × Global) (lane : ℕ) (chairs : List Chair) (c : Chair) (n : ℕ) → RowEndsAt home lane chairs → n ≡ lane → Some c ≡ Some (get_or chairs n c)
    → IsPassOf home c.pass × ((view c.pass).role ≡ Guest) × ((view c.pass).taken ≡ chair_taken lane chairs)
last_is home lane chairs c n ends at e =
    let is : c ≡ get_or chairs lane c = subst (λ (m : ℕ). c ≡ get_or chairs m c) at (cc) in
    let lt : lane < length chairs = let k = ends.last in omega arith in (
      subst (λ (u : Chair). IsPassOf home u.pass) (sym is) (ends.pass c),
      subst (λ (u : Chair). (view u.pass).role ≡ Guest) (sym is) (ends.guest c),
      ap (λ (u : Chair). (view u.pass).taken) is ∙ sym (chair_taken_at lane chairs c lt),
    )

times_at_snoc : (x lane : ℕ) (rows : List (Vec Chair Global)) (row : Vec Chair Global) → times_at x lane (rows ++ row ∷ []) ≡ times_at x lane rows + count_in x (chair_taken lane row.items)
times_at_snoc x lane [] row = omega arith
times_at_snoc x lane (r ∷ rows) row = omega (arith, times_at_snoc x lane rows row)

pub times_at_more : (x lane k : ℕ) (rows : List (Vec Chair Global)) (row : Vec Chair Global) → k < length rows → times_at x lane (take (k + 1) rows) ≡ times_at x lane (take k rows) + count_in x (chair_taken lane (get_or rows k row).items)
times_at_more x lane k rows row lt = ap (times_at x lane) (rw add-one (take-suc rows k row lt)) ∙ times_at_snoc x lane (take k rows) (get_or rows k row)

pub learned : (v w : View) (r : Option ℕ) → MatchOption r ((w ≡ v) × TookDealt v) (λ x. TakesPieces v (x ∷ []) w) → TookDealt v
learned v w None h = h.1
learned v w (Some x) h = took_dealt v w (x ∷ []) h

abbrev Row : Type 0
Row = Vec Chair Global

get_any : (rows : List Row) (k : ℕ) (d e : Row) → k < length rows → get_or rows k d ≡ get_or rows k e
get_any [] k d e lt = absurd (omega arith)
get_any (x ∷ rows) zero d e lt = refl
get_any (x ∷ rows) (suc k) d e lt = get_any rows k d e (omega arith)

pub done_more : (lane k : ℕ) (rows first : List Row) (old new : Row) → k < length rows → old ≡ get_or rows k old → new.items ≡ take lane old.items → ((j : ℕ) (d : Row) → k ≤ j → (get_or rows j d).items ≡ (get_or first j d).items)
    → ((j : ℕ) (d : Row) → j < k → (get_or rows j d).items ≡ take lane (get_or first j d).items) → (j : ℕ) (d : Row) → j < k + 1 → (get_or (set rows k new) j d).items ≡ take lane (get_or first j d).items
done_more lane k rows first old new lt is row left done j d below =
    elim (ℕ_discrete j k) as (λ _. (get_or (set rows k new) j d).items ≡ take lane (get_or first j d).items) [
      | yes e ↦ subst (λ (m : ℕ). (get_or (set rows k new) m d).items ≡ take lane (get_or first m d).items) (sym e)
          (ap (λ (r : Row). r.items) (get_or-set_same rows k new d lt) ∙ row ∙ ap (take lane) (ap (λ (r : Row). r.items) (is ∙ get_any rows k old d lt) ∙ left k d (omega arith)))
      | no n ↦ ap (λ (r : Row). r.items) (get_or-set_other rows k j new d n) ∙ done j d (omega arith)
    ]

pub left_less : (k : ℕ) (rows first : List Row) (new : Row) → ((j : ℕ) (d : Row) → k ≤ j → (get_or rows j d).items ≡ (get_or first j d).items) → (j : ℕ) (d : Row) → k + 1 ≤ j → (get_or (set rows k new) j d).items ≡ (get_or first j d).items
left_less k rows first new left j d le = ap (λ (r : Row). r.items) (get_or-set_other rows k j new d (λ e. omega arith)) ∙ left j d (omega arith)

pub sum_more : (x lane k : ℕ) (rows first : List Row) (old : Row) (start before after : View) → k < length rows → length rows ≡ length first → old ≡ get_or rows k old → ((j : ℕ) (d : Row) → k ≤ j → (get_or rows j d).items ≡ (get_or first j d).items)
    → after ≡ took before (chair_taken lane old.items) → count_in x before.taken ≡ count_in x start.taken + times_at x lane (take k first) → count_in x after.taken ≡ count_in x start.taken + times_at x lane (take (k + 1) first)
sum_more x lane k rows first old start before after lt same is left step sum =
    let a : count_in x after.taken ≡ count_in x before.taken + count_in x (chair_taken lane old.items) = ap (λ (v : View). count_in x v.taken) step ∙ times-append x before.taken (chair_taken lane old.items) in
    let b : count_in x (chair_taken lane old.items) ≡ count_in x (chair_taken lane (get_or first k old).items) = ap (λ (l : List Chair). count_in x (chair_taken lane l)) (ap (λ (r : Row). r.items) is ∙ left k old (omega arith)) in
    let m = times_at_more x lane k first old (omega arith) in omega arith

-- the sum over the rows, and what the owner took itself: where the lane was passed, and where it is still to come
sum_after : (x lane off : ℕ) (p : ℕ → Bool) (rows : List Row) (taken : List (List ℕ)) → length rows ≡ length taken → lane < off
    → ((i : ℕ) (d : Row) → i < length rows → chair_taken lane (get_or rows i d).items ≡ cond (eqb lane (off + i)) [] (filter p (get_or taken i []))) → times_at x lane rows ≡ times_in x (map (filter p) taken)
sum_after x lane off p [] [] e lt h = refl
sum_after x lane off p [] (t ∷ taken) e lt h = absurd (omega arith)
sum_after x lane off p (r ∷ rows) [] e lt h = absurd (omega arith)
sum_after x lane off p (r ∷ rows) (t ∷ taken) e lt h =
    let here : count_in x (chair_taken lane r.items) ≡ count_in x (filter p t) = ap (count_in x) (h 0 r (omega arith) ∙ ap (λ (b : Bool). cond b [] (filter p t)) (ne_eqb lane (off + 0) (λ k. omega arith))) in
    let rest = sum_after x lane (suc off) p rows taken (omega arith) (omega arith) (λ i d below. h (suc i) d (omega arith) ∙ ap (λ (n : ℕ). cond (eqb lane n) [] (filter p (get_or taken i []))) (omega arith)) in omega arith

sum_with : (x lane off : ℕ) (p : ℕ → Bool) (rows : List Row) (taken : List (List ℕ)) (mine : List ℕ) (k : ℕ) → length rows ≡ length taken → off + k ≡ lane → k < length rows → mine ≡ get_or taken k []
    → ((i : ℕ) (d : Row) → i < length rows → chair_taken lane (get_or rows i d).items ≡ cond (eqb lane (off + i)) [] (filter p (get_or taken i []))) → count_in x (filter p mine) + times_at x lane rows ≡ times_in x (map (filter p) taken)
sum_with x lane off p [] taken mine k e at lt is h = absurd (omega arith)
sum_with x lane off p (r ∷ rows) [] mine k e at lt is h = absurd (omega arith)
sum_with x lane off p (r ∷ rows) (t ∷ taken) mine zero e at lt is h =
    let here : count_in x (chair_taken lane r.items) ≡ 0 = ap (count_in x) (h 0 r (omega arith) ∙ ap (λ (b : Bool). cond b [] (filter p t)) (eq-eqb lane (off + 0) (omega arith))) in
    let own : count_in x (filter p mine) ≡ count_in x (filter p t) = ap (λ (l : List ℕ). count_in x (filter p l)) is in
    let rest = sum_after x lane (suc off) p rows taken (omega arith) (omega arith) (λ i d below. h (suc i) d (omega arith) ∙ ap (λ (n : ℕ). cond (eqb lane n) [] (filter p (get_or taken i []))) (omega arith)) in omega arith
sum_with x lane off p (r ∷ rows) (t ∷ taken) mine (suc k) e at lt is h =
    let here : count_in x (chair_taken lane r.items) ≡ count_in x (filter p t) = ap (count_in x) (h 0 r (omega arith) ∙ ap (λ (b : Bool). cond b [] (filter p t)) (ne_eqb lane (off + 0) (λ m. omega arith))) in
    let rest = sum_with x lane (suc off) p rows taken mine k (omega arith) (omega arith) (omega arith) is (λ i d below. h (suc i) d (omega arith) ∙ ap (λ (n : ℕ). cond (eqb lane n) [] (filter p (get_or taken i []))) (omega arith)) in omega arith

times_in_only : (x : ℕ) (p : ℕ → Bool) (taken : List (List ℕ)) → p x ≡ true → times_in x (map (filter p) taken) ≡ times_in x taken
times_in_only x p [] e = refl
times_in_only x p (t ∷ taken) e = let a : count_in x (filter p t) ≡ count_in x t = times-filter p x t ∙ ap (λ (b : Bool). cond b (count_in x t) 0) e in let rest = times_in_only x p taken e in omega arith

pub lane_below : (deal : Deal) (lanes x : ℕ) → 0 < lanes → lane_of deal lanes x < lanes
lane_below Round lanes x lt = omega arith
lane_below First lanes x lt = lt

-- what was learned of each deque says it of all pieces
pub given_once : (deal : Deal) (lanes pieces : ℕ) (taken : List (List ℕ)) → 0 < lanes → ((lane : ℕ) → lane < lanes → IsLearned deal lanes pieces taken lane) → AreGivenOnce pieces taken
given_once deal lanes pieces taken some all x =
    let lane : ℕ = lane_of deal lanes x in
    let p = is_of deal lanes lane in
    let yes_ : p x ≡ true = eq-eqb lane lane refl in
    let a = all lane (lane_below deal lanes x some) x in
    let b = times_in_only x p taken yes_ in
    let d : count_in x (dealt_to deal lanes pieces lane) ≡ count_in x (upto pieces) = times-filter p x (upto pieces) ∙ ap (λ (c : Bool). cond c (count_in x (upto pieces)) 0) yes_ in omega arith

abbrev Deque : Type 0
Deque = Worker ℕ Global View OnceEach

pub part_row : (deal : Deal) (pieces : ℕ) (workers : Deques) (rows : List Row) (taken : List (List ℕ)) (i : ℕ) (w : Deque) (d : Row) → AreParts deal pieces workers rows taken → i < length rows
    → (length (get_or rows i d).items ≡ length workers) × AllSit deal (length workers) pieces i (get_or taken i []) (get_or rows i d).items
part_row deal pieces workers rows taken i w d parts lt =
    let chairs : List Chair = (get_or rows i d).items in
    let e = as_many workers chairs (parts.homes i d lt) in
    let n = parts.rows_too in
    (e, subst (λ (n : ℕ). AllSit deal n pieces i (get_or taken i []) chairs) e (parts.tend i w d (omega arith)).sit)

pub part_worker : (deal : Deal) (pieces : ℕ) (workers : Deques) (rows : List Row) (taken : List (List ℕ)) (lane : ℕ) (w : Deque) (d : Row) → AreParts deal pieces workers rows taken → lane < length workers → w ≡ get_or workers lane w
    → ((worker_view {T = ℕ} {A = Global} {V = View} {P = OnceEach} w).role ≡ Marked) × ((worker_view {T = ℕ} {A = Global} {V = View} {P = OnceEach} w).dealt ≡ dealt_to deal (length workers) pieces lane)
    × ((worker_view {T = ℕ} {A = Global} {V = View} {P = OnceEach} w).taken ≡ filter (is_of deal (length workers) lane) (get_or taken lane []))
part_worker deal pieces workers rows taken lane w d parts lt is =
    let chairs : List Chair = (get_or rows lane d).items in
    let n = parts.rows_too in
    let e = as_many workers chairs (parts.homes lane d (omega arith)) in
    let t = parts.tend lane w d lt in
    let same : worker_view w ≡ worker_view (get_or workers lane w) = ap (λ (u : Deque). worker_view u) is in (
      ap (λ (v : View). v.role) same ∙ t.marked,
      ap (λ (v : View). v.dealt) same ∙ t.dealt ∙ ap (λ (n : ℕ). dealt_to deal n pieces lane) e,
      ap (λ (v : View). v.taken) same ∙ t.took ∙ ap (λ (n : ℕ). filter (is_of deal n lane) (get_or taken lane [])) e,
    )

-- each row ends at the deque of the worker that came off
pub rows_end : (deal : Deal) (pieces : ℕ) (workers : Deques) (first rows : List Row) (taken : List (List ℕ)) (lane k : ℕ) (w : Deque) → AreParts deal pieces workers first taken → length rows ≡ length first → k ≡ lane + 1 → lane < length workers → w ≡ get_or workers lane w
    → ((i : ℕ) (d : Row) → i < length rows → (get_or rows i d).items ≡ take k (get_or first i d).items) → AllEndAt (worker_deque w) lane rows
rows_end deal pieces workers first rows taken lane k w parts same at lt is cut i d below =
    let r = part_row deal pieces workers first taken i w d parts (omega arith) in
    let chairs : List Chair = (get_or first i d).items in
    let fits : RowEndsAt (worker_deque w) lane (take k chairs) = record {
      last = length-take-le k chairs (omega arith) ∙ at;
      pass = λ c. subst (λ (u : Chair). IsPassOf (worker_deque w) u.pass) (sym (get_or-take k chairs lane c (omega arith)))
          (subst (λ h. IsPassOf h (get_or chairs lane c).pass) (sym (lane_home workers chairs lane w (parts.homes i d (omega arith)) lt is c)) (r.1 lane c (omega arith)).pass);
      guest = λ c. subst (λ (u : Chair). (view u.pass).role ≡ Guest) (sym (get_or-take k chairs lane c (omega arith))) (r.1 lane c (omega arith)).guest;
    } in
    subst (RowEndsAt (worker_deque w) lane) (sym (cut i d below)) fits

chair_is : (lane : ℕ) (chairs : List Chair) → lane < length chairs → (v : List ℕ) → ((c : Chair) → (view (get_or chairs lane c).pass).taken ≡ v) → chair_taken lane chairs ≡ v
chair_is lane [] lt v h = absurd (omega arith)
chair_is lane (c ∷ chairs) lt v h = chair_taken_at lane (c ∷ chairs) c lt ∙ h c

-- what the owner learned, of all lanes
pub lane_learned : (deal : Deal) (pieces : ℕ) (workers : Deques) (first rows : List Row) (taken : List (List ℕ)) (lane k : ℕ) (w : Deque) (d : Row) → AreParts deal pieces workers first taken → length rows ≡ length first → k ≡ lane + 1 → lane < length workers → w ≡ get_or workers lane w
    → ((i : ℕ) (d : Row) → i < length rows → (get_or rows i d).items ≡ take k (get_or first i d).items)
    → ((x : ℕ) → count_in x (worker_view {T = ℕ} {A = Global} {V = View} {P = OnceEach} w).taken + times_at x lane rows ≤ count_in x (worker_view {T = ℕ} {A = Global} {V = View} {P = OnceEach} w).dealt) → IsLearned deal (length workers) pieces taken lane
lane_learned deal pieces workers first rows taken lane k w d parts same at lt is cut learned x =
    let p = is_of deal (length workers) lane in
    let o = part_worker deal pieces workers first taken lane w d parts lt is in
    let n = parts.rows_too in
    let m = parts.taken_too in
    let each : (i : ℕ) (d : Row) → i < length rows → chair_taken lane (get_or rows i d).items ≡ cond (eqb lane (0 + i)) [] (filter p (get_or taken i [])) = λ i d below.
    let r = part_row deal pieces workers first taken i w d parts (omega arith) in
    let chairs : List Chair = (get_or first i d).items in
    let q = rows_end deal pieces workers first rows taken lane k w parts same at lt is cut i d below in
    chair_is lane (get_or rows i d).items (omega arith) (cond (eqb lane (0 + i)) [] (filter p (get_or taken i [])))
    (λ c. let s = r.1 lane c (omega arith) in
    ap (λ (l : List Chair). (view (get_or l lane c).pass).taken) (cut i d below) ∙ ap (λ (u : Chair). (view u.pass).taken) (get_or-take k chairs lane c (omega arith)) ∙ s.took ∙ ap (λ (n : ℕ). cond (eqb lane n) [] (filter p (get_or taken i []))) (omega arith)) in
    let total = sum_with x lane 0 p rows taken (get_or taken lane []) lane (omega arith) (omega arith) (omega arith) refl each in
    let a : count_in x (worker_view w).taken ≡ count_in x (filter p (get_or taken lane [])) = ap (count_in x) o.2 in
    let b : count_in x (worker_view w).dealt ≡ count_in x (dealt_to deal (length workers) pieces lane) = ap (count_in x) o.1 in
    let f = learned x in omega arith

pub part_marked : (deal : Deal) (pieces : ℕ) (workers : Deques) (rows : List Row) (taken : List (List ℕ)) (lane : ℕ) (w : Deque) → AreParts deal pieces workers rows taken → lane < length workers → w ≡ get_or workers lane w → (worker_view {T = ℕ} {A = Global} {V = View} {P = OnceEach} w).role ≡ Marked
part_marked deal pieces workers [] taken lane w parts lt is = absurd (let n = parts.rows_too in omega arith)
part_marked deal pieces workers (d ∷ rows) taken lane w parts lt is = (part_worker deal pieces workers (d ∷ rows) taken lane w d parts lt is).0

pub lane_learned' : (deal : Deal) (pieces : ℕ) (workers : Deques) (first rows : List Row) (taken : List (List ℕ)) (lane k : ℕ) (w : Deque) → AreParts deal pieces workers first taken → length rows ≡ length first → k ≡ lane + 1 → lane < length workers → w ≡ get_or workers lane w
    → ((i : ℕ) (d : Row) → i < length rows → (get_or rows i d).items ≡ take k (get_or first i d).items)
    → ((x : ℕ) → count_in x (worker_view {T = ℕ} {A = Global} {V = View} {P = OnceEach} w).taken + times_at x lane rows ≤ count_in x (worker_view {T = ℕ} {A = Global} {V = View} {P = OnceEach} w).dealt) → IsLearned deal (length workers) pieces taken lane
lane_learned' deal pieces workers [] rows taken lane k w parts same at lt is cut learned = absurd (let n = parts.rows_too in omega arith)
lane_learned' deal pieces workers (d ∷ first) rows taken lane k w parts same at lt is cut learned = lane_learned deal pieces workers (d ∷ first) rows taken lane k w d parts same at lt is cut learned

pub learned_more : (deal : Deal) (lanes pieces : ℕ) (taken : List (List ℕ)) (lane k : ℕ) → k ≡ lane + 1 → IsLearned deal lanes pieces taken lane → ((j : ℕ) → k ≤ j → j < lanes → IsLearned deal lanes pieces taken j) → (j : ℕ) → lane ≤ j → j < lanes → IsLearned deal lanes pieces taken j
learned_more deal lanes pieces taken lane k at mine rest j le lt = elim (ℕ_discrete j lane) as (λ _. IsLearned deal lanes pieces taken j) [ yes e ↦ subst (IsLearned deal lanes pieces taken) (sym e) mine | no n ↦ rest j (omega arith) lt ]

pub cut_more : (lane k : ℕ) (rows first next : List Row) → k ≡ lane + 1 → length next ≡ length rows → ((i : ℕ) (d : Row) → i < length rows → (get_or rows i d).items ≡ take k (get_or first i d).items)
    → ((i : ℕ) (d : Row) → i < length rows → (get_or next i d).items ≡ take lane (get_or rows i d).items) → (i : ℕ) (d : Row) → i < length next → (get_or next i d).items ≡ take lane (get_or first i d).items
cut_more lane k rows first next at same cut step i d lt = step i d (omega arith) ∙ ap (take lane) (cut i d (omega arith)) ∙ take-take lane k (get_or first i d).items (omega arith)
