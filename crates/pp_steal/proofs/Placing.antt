-- Outcomes at their places.
use Rattle.std.proofs.Common.{◌≡◌, ℕ, zero, suc, ◌+◌, ◌<◌, ◌≤◌, List, [], ◌∷◌, ◌++◌, Option, Some, None, length, length-append, length-set, set, get_or, get_or-set_same, get_or-set_other, take, drop, map, All, false, sym, ap, ◌∙◌, subst, arith, add-zero}
use native.Mathlib.Decide.{ℕ_discrete, dec_le}
use Rattle.std.specs.declared.alloc.Global.{Global}
use Rattle.std.specs.declared.vec.Vec.{Vec}
use Rattle.std.proofs.lemmas.List.{get_or-map, length-map, map-append, get_or-drop}
use Rattle.std.proofs.lemmas.List.Elements.{All-push}
use Rattle.pp_steal.specs.declared.station.Station.{Station}
use Rattle.pp_steal.specs.declared.deal.Deal.{Deal}
use Rattle.pp_steal.specs.Pool.{count_in}
use Rattle.pp_steal.specs.Dealing.{upto, AreDistinctPieces}
use Rattle.pp_steal.specs.Closing.{times_in, AreGivenOnce, HoldEachOnce, first_make, IsWholeMake}
use Rattle.pp_steal.proofs.Keeps.{times-append}
use Rattle.pp_steal.specs.Running.{HasOutcomes, HasRight, IsIdle, IsServed, AllHaveOutcomes, lane_of_station, outcomes_of_station}
use Rattle.pp_steal.specs.Lanes.{Standing, Make, taken_of, IsLaneOf, AreNewLanes, IsNewMake}
use Rattle.pp_steal.proofs.Each.{each_push}
use Rattle.pp_steal.proofs.Ends.{last_off, next_is, next_gone, take_more}
use Rattle.pp_steal.proofs.Marking.{in_range}
use Rattle.pp_steal.proofs.Dealt.{times-upto, times-one, times-other}

module _ {T : Type 0} where
  module _ (right : ℕ → T → Type 0) where
    pub right_here : (slots : List (Option T)) (p : ℕ) (o : T) → p < length slots → right p o → HasRight right (set slots p (Some o)) p
    right_here slots p o lt ok = record { outcome = o; there = get_or-set_same slots p (Some o) None lt; is_right = ok }

    pub right_set : (slots : List (Option T)) (p x : ℕ) (o : T) → p < length slots → right p o → HasRight right slots x → HasRight right (set slots p (Some o)) x
    right_set slots p x o lt ok h = elim (ℕ_discrete x p) as (λ _. HasRight right (set slots p (Some o)) x) [
      | yes e ↦ subst (HasRight right (set slots p (Some o))) (sym e) (right_here slots p o lt ok)
      | no n ↦ record { outcome = h.outcome; there = get_or-set_other slots p x (Some o) None n ∙ h.there; is_right = h.is_right }
    ]

    pub placed_more : (slots : List (Option T)) (list : List ℕ) (at k : ℕ) (o : T) → k ≡ at + 1 → get_or list at 0 < length slots → right (get_or list at 0) o → ((i : ℕ) → k ≤ i → i < length list → HasRight right slots (get_or list i 0))
        → (i : ℕ) → at ≤ i → i < length list → HasRight right (set slots (get_or list at 0) (Some o)) (get_or list i 0)
    placed_more slots list at k o more lt ok rest i le below = elim (ℕ_discrete i at) as (λ _. HasRight right (set slots (get_or list at 0) (Some o)) (get_or list i 0)) [
      | yes e ↦ subst (λ (n : ℕ). HasRight right (set slots (get_or list at 0) (Some o)) (get_or list n 0)) (sym e) (right_here slots (get_or list at 0) o lt ok)
      | no n ↦ right_set slots (get_or list at 0) (get_or list i 0) o lt ok (rest i (omega arith) below)
    ]

    pub placed_up : (slots : List (Option T)) (list : List ℕ) (at : ℕ) (o : T) → get_or list at 0 < length slots → right (get_or list at 0) o → ((i : ℕ) → i < at → HasRight right slots (get_or list i 0))
        → (i : ℕ) → i < at + 1 → HasRight right (set slots (get_or list at 0) (Some o)) (get_or list i 0)
    placed_up slots list at o lt ok rest i below = elim (ℕ_discrete i at) as (λ _. HasRight right (set slots (get_or list at 0) (Some o)) (get_or list i 0)) [
      | yes e ↦ subst (λ (n : ℕ). HasRight right (set slots (get_or list at 0) (Some o)) (get_or list n 0)) (sym e) (right_here slots (get_or list at 0) o lt ok)
      | no n ↦ right_set slots (get_or list at 0) (get_or list i 0) o lt ok (rest i (omega arith))
    ]

    pub outcome_at : (list : List ℕ) (all : List T) (at : ℕ) (o : T) → HasOutcomes right list all → at < length all → o ≡ get_or all at o → right (get_or list at 0) o
    outcome_at list all at o h lt is = subst (right (get_or list at 0)) (sym is) (h.each at o lt)

    -- one outcome more is at its place
    pub record IsPlaced (list : List ℕ) (all rest : List T) (first slots : List (Option T)) : Type 0 where
      pub done : (rest ≡ take (length rest) all) × (length rest ≤ length all)
      pub count : length slots ≡ length first
      pub kept : (x : ℕ) → HasRight right first x → HasRight right slots x
      pub placed : (i : ℕ) → length rest ≤ i → i < length list → HasRight right slots (get_or list i 0)

    pub place_one : (list : List ℕ) (all items rest : List T) (first slots : List (Option T)) (o : T) (at : ℕ) → HasOutcomes right list all → AreDistinctPieces (length first) list → IsPlaced list all items first slots
        → items ≡ rest ++ o ∷ [] → length items ≡ at + 1 → length rest ≡ at → IsPlaced list all rest first (set slots (get_or list at 0) (Some o))
    place_one list all items rest first slots o at outs once p split more here =
        let off = last_off items all rest o (length items) at split p.done.0 more here in
        let few = p.done.1 in
        let n = outs.many in
        let range = in_range (length first) list at once (omega arith) in
        let c = p.count in
        let lt : get_or list at 0 < length slots = omega arith in
        let ok : right (get_or list at 0) o = outcome_at list all at o outs (omega arith) off.0 in
        record {
          done = (off.1 ∙ ap (λ (k : ℕ). take k all) (sym here), omega arith);
          count = length-set slots (get_or list at 0) (Some o) ∙ p.count;
          kept = λ x h. right_set slots (get_or list at 0) x o lt ok (p.kept x h);
          placed = λ i le below. placed_more slots list at (length items) o more lt ok p.placed i (omega arith) below;
        }

    pub all_placed : (taken : List (List ℕ)) (before slots : List (Option T)) (list : List ℕ) (at k : ℕ) → k ≡ at + 1 → list ≡ get_or taken at [] → ((x : ℕ) → HasRight right before x → HasRight right slots x) → ((i : ℕ) → i < length list → HasRight right slots (get_or list i 0))
        → ((j : ℕ) (i : ℕ) → k ≤ j → j < length taken → i < length (get_or taken j []) → HasRight right before (get_or (get_or taken j []) i 0))
        → (j : ℕ) (i : ℕ) → at ≤ j → j < length taken → i < length (get_or taken j []) → HasRight right slots (get_or (get_or taken j []) i 0)
    all_placed taken before slots list at k more is kept placed rest j i le below inside = elim (ℕ_discrete j at) as (λ _. HasRight right slots (get_or (get_or taken j []) i 0)) [
      | yes e ↦
          let l : list ≡ get_or taken j [] = is ∙ ap (λ (n : ℕ). get_or taken n []) (sym e) in
          let n : length list ≡ length (get_or taken j []) = ap length l in
          subst (λ (m : List ℕ). HasRight right slots (get_or m i 0)) l (placed i (omega arith))
      | no n ↦ kept (get_or (get_or taken j []) i 0) (rest j i (omega arith) below inside)
    ]

module _ {T : Type 0} where
  -- stations of the first lanes, and the lanes that are still to come
  pub record AreStations (lanes rest : List Standing) (all : List (Station T)) : Type 0 where
    pub left : rest ≡ drop (length all) lanes
    pub many : length all + length rest ≡ length lanes
    pub same : map lane_of_station all ≡ take (length all) lanes
    pub idle : All IsIdle all

  pub station_more : (lanes rest after : List Standing) (all : List (Station T)) (lane : Standing) (s : Station T) → AreStations lanes rest all → rest ≡ lane ∷ after → s.lane ≡ lane → IsIdle s → AreStations lanes after (all ++ s ∷ [])
  station_more lanes rest after all lane s h e same idle =
      let at : lane ≡ get_or lanes (length all) lane = next_is lanes rest after (length all) lane h.left e in
      let n = h.many in let m : length rest ≡ suc (length after) = ap length e in
      let len : length (all ++ s ∷ []) ≡ length all + 1 = omega (arith, length-append all (s ∷ [])) in
      record {
        left = next_gone lanes rest after (length all) lane h.left e ∙ ap (λ (k : ℕ). drop k lanes) (sym len);
        many = omega arith;
        same = map-append lane_of_station all (s ∷ []) ∙ ap (λ (l : List Standing). l ++ s.lane ∷ []) h.same ∙ ap (λ (u : Standing). take (length all) lanes ++ u ∷ []) same
            ∙ sym (take_more lanes (length all) lane (omega arith) at) ∙ ap (λ (k : ℕ). take k lanes) (sym len);
        idle = All-push IsIdle all s h.idle idle;
      }

  -- what the first stations did, and the stations that are still to come
  pub record AreFinished (first rest : List (Station T)) (lanes : List Standing) (outcomes : List (Vec T Global)) : Type 0 where
    pub left : rest ≡ drop (length lanes) first
    pub many : length lanes + length rest ≡ length first
    pub as_many : length outcomes ≡ length lanes
    pub lanes_too : lanes ≡ map lane_of_station (take (length lanes) first)
    pub outcomes_too : outcomes ≡ map outcomes_of_station (take (length lanes) first)
    pub going : All (λ (s : Station T). s.stopped ≡ false) (take (length lanes) first)

  pub finish_more : (first rest after : List (Station T)) (lanes : List Standing) (outcomes : List (Vec T Global)) (s : Station T) → AreFinished first rest lanes outcomes → rest ≡ s ∷ after → s.stopped ≡ false → AreFinished first after (lanes ++ s.lane ∷ []) (outcomes ++ s.outcomes ∷ [])
  finish_more first rest after lanes outcomes s h e going =
      let k : ℕ = length lanes in
      let at : s ≡ get_or first k s = next_is first rest after k s h.left e in
      let n = h.many in let m : length rest ≡ suc (length after) = ap length e in let o = h.as_many in
      let len : length (lanes ++ s.lane ∷ []) ≡ k + 1 = omega (arith, length-append lanes (s.lane ∷ [])) in
      let more : take (length (lanes ++ s.lane ∷ [])) first ≡ take k first ++ s ∷ [] = ap (λ (i : ℕ). take i first) len ∙ take_more first k s (omega arith) at in
      record {
        left = next_gone first rest after k s h.left e ∙ ap (λ (i : ℕ). drop i first) (sym len);
        many = omega arith;
        as_many = omega (arith, length-append outcomes (s.outcomes ∷ []));
        lanes_too = ap (λ (l : List Standing). l ++ s.lane ∷ []) h.lanes_too ∙ sym (ap (map lane_of_station) more ∙ map-append lane_of_station (take k first) (s ∷ []));
        outcomes_too = ap (λ (l : List (Vec T Global)). l ++ s.outcomes ∷ []) h.outcomes_too ∙ sym (ap (map outcomes_of_station) more ∙ map-append outcomes_of_station (take k first) (s ∷ []));
        going = subst (All (λ (u : Station T). u.stopped ≡ false)) (sym more) (All-push (λ (u : Station T). u.stopped ≡ false) (take k first) s h.going going);
      }

  -- the outcomes of the first slots
  pub record AreOut (right : ℕ → T → Type 0) (slots rest : List (Option T)) (outs : List T) : Type 0 where
    pub left : (rest ≡ drop (length outs) slots) × (length outs + length rest ≡ length slots)
    pub ok : (i : ℕ) (d : T) → i < length outs → right i (get_or outs i d)

  slot_is : (slots rest after : List (Option T)) (k : ℕ) (slot : Option T) → rest ≡ drop k slots → rest ≡ slot ∷ after → slot ≡ get_or slots k None
  slot_is slots rest after k slot e is = ap (λ (l : List (Option T)). get_or l 0 None) (sym is ∙ e) ∙ get_or-drop k slots 0 None ∙ ap (λ (n : ℕ). get_or slots n None) (add-zero k)

  pub slot_right : (right : ℕ → T → Type 0) (slots rest after : List (Option T)) (outs : List T) (slot : Option T) → AreOut right slots rest outs → rest ≡ slot ∷ after → ((x : ℕ) → x < length slots → HasRight right slots x) → (v : T) × (slot ≡ Some v) × right (length outs) v
  slot_right right slots rest after outs slot a is all =
      let n = a.left.1 in let m : length rest ≡ suc (length after) = ap length is in
      let h = all (length outs) (omega arith) in (h.outcome, slot_is slots rest after (length outs) slot a.left.0 is ∙ h.there, h.is_right)

  pub out_more : (right : ℕ → T → Type 0) (slots rest after : List (Option T)) (outs : List T) (v : T) → AreOut right slots rest outs → rest ≡ Some v ∷ after → ((x : ℕ) → x < length slots → HasRight right slots x) → AreOut right slots after (outs ++ v ∷ [])
  out_more right slots rest after outs v a is all =
      let n = a.left.1 in let m : length rest ≡ suc (length after) = ap length is in
      let h = slot_right right slots rest after outs (Some v) a is all in
      let same : v ≡ h.0 = (let e = h.1 in cc) in
      let len : length (outs ++ v ∷ []) ≡ length outs + 1 = omega (arith, length-append outs (v ∷ [])) in
      record {
        left = (next_gone slots rest after (length outs) (Some v) a.left.0 is ∙ ap (λ (k : ℕ). drop k slots) (sym len), omega arith);
        ok = each_push right outs v (subst (right (length outs)) (sym same) h.2) a.ok;
      }

-- a number that stands in a list stands at some place
times_at_some : (x : ℕ) (xs : List ℕ) → 0 < count_in x xs → (i : ℕ) × (i < length xs) × (get_or xs i 0 ≡ x)
times_at_some x [] lt = absurd (omega arith)
times_at_some x (y ∷ xs) lt = elim (ℕ_discrete y x) as (λ _. (i : ℕ) × (i < length (y ∷ xs)) × (get_or (y ∷ xs) i 0 ≡ x)) [
  | yes e ↦ (0, omega arith, e)
  | no n ↦ let z = times-other x y (λ e. n (sym e)) in let r = times_at_some x xs (omega arith) in (suc r.0, omega (arith, r.1), r.2)
]

times_in_some : (x : ℕ) (taken : List (List ℕ)) → 0 < times_in x taken → (k : ℕ) × (k < length taken) × (0 < count_in x (get_or taken k []))
times_in_some x [] lt = absurd (omega arith)
times_in_some x (l ∷ taken) lt = elim (dec_le 1 (count_in x l)) as (λ _. (k : ℕ) × (k < length (l ∷ taken)) × (0 < count_in x (get_or (l ∷ taken) k []))) [
  | yes le ↦ (0, omega arith, omega arith)
  | no n ↦ let r = times_in_some x taken (omega arith) in (suc r.0, omega (arith, r.1), r.2)
]

once_upto : (n x : ℕ) → x < n → count_in x (upto n) ≡ 1
once_upto zero x lt = absurd (omega arith)
once_upto (suc n) x lt = let a = times-append x (upto n) (n ∷ []) in elim (ℕ_discrete x n) as (λ _. count_in x (upto (suc n)) ≡ 1) [
  | yes e ↦ let one : count_in x (n ∷ []) ≡ 1 = subst (λ (k : ℕ). count_in x (k ∷ []) ≡ 1) e (times-one x) in let z = (times-upto x n).0 (omega arith) in omega arith
  | no m ↦ let none : count_in x (n ∷ []) ≡ 0 = times-other x n m in let r = once_upto n x (omega arith) in omega arith
]

module _ {T : Type 0} (right : ℕ → T → Type 0) where
  -- each piece was taken or left, and so has its outcome
  pub all_right : (pieces : ℕ) (slots before : List (Option T)) (taken : List (List ℕ)) (left : List ℕ) → ((x : ℕ) → times_in x taken + count_in x left ≡ count_in x (upto pieces)) → ((x : ℕ) → HasRight right before x → HasRight right slots x)
      → ((k : ℕ) (i : ℕ) → k < length taken → i < length (get_or taken k []) → HasRight right before (get_or (get_or taken k []) i 0)) → ((i : ℕ) → i < length left → HasRight right slots (get_or left i 0)) → (x : ℕ) → x < pieces → HasRight right slots x
  all_right pieces slots before taken left once kept taken_ok left_ok x lt =
      let o = once x in let u = once_upto pieces x lt in
      elim (dec_le 1 (times_in x taken)) as (λ _. HasRight right slots x) [
        | yes le ↦ let k = times_in_some x taken (omega arith) in let i = times_at_some x (get_or taken k.0 []) k.2 in kept x (subst (HasRight right before) i.2 (taken_ok k.0 i.0 k.1 i.1))
        | no n ↦ let i = times_at_some x left (omega arith) in subst (HasRight right slots) i.2 (left_ok i.0 i.1)
      ]

  pub outcomes_of : (taken : List (List ℕ)) (before after : List (Station T)) → map taken_of (map lane_of_station after) ≡ taken → length after ≡ length before → All (λ (s : Station T). s.stopped ≡ false) after
      → ((k : ℕ) (d : Station T) → k < length before → IsServed right (get_or before k d) (get_or after k d)) → AllHaveOutcomes right taken (map outcomes_of_station after)
  outcomes_of taken before [] is same going served = record { many = ap length is; each = λ k d lt. let n : 0 ≡ length taken = ap length is in absurd (omega arith) }
  outcomes_of taken before (e ∷ rest) is same going served =
      let few : length (map lane_of_station (e ∷ rest)) ≡ length (e ∷ rest) = length-map (e ∷ rest) lane_of_station in
      let many : length taken ≡ length (e ∷ rest) = sym (ap length is) ∙ length-map (map lane_of_station (e ∷ rest)) taken_of ∙ few in
      record {
        many = length-map (e ∷ rest) outcomes_of_station ∙ sym many;
        each = λ k d lt.
            let below : k < length (e ∷ rest) = omega arith in
            let s : Station T = get_or (e ∷ rest) k e in
            let list : s.lane.taken ≡ get_or taken k [] = sym (ap (λ (l : List (List ℕ)). get_or l k []) (sym is) ∙ get_or-map taken_of (map lane_of_station (e ∷ rest)) k (lane_of_station e) [] (omega arith) ∙ ap taken_of (get_or-map lane_of_station (e ∷ rest) k e (lane_of_station e) below)) in
            let done : s.outcomes ≡ get_or (map outcomes_of_station (e ∷ rest)) k d = sym (get_or-map outcomes_of_station (e ∷ rest) k e d below) in
            let ok : HasOutcomes right s.lane.taken s.outcomes.items = (served k e (omega arith)).outcomes (going k e below) in
            subst (λ (l : List ℕ). HasOutcomes right l (get_or (map outcomes_of_station (e ∷ rest)) k d).items) list (subst (λ (v : Vec T Global). HasOutcomes right s.lane.taken v.items) done ok);
      }

  -- after their work, the lanes are still all lanes of their make
  pub whole_after : (make : Make) (lanes : List Standing) (before after : List (Station T)) → AreNewLanes make lanes → length lanes ≡ length make.deques → 0 < length lanes → map lane_of_station before ≡ lanes → length after ≡ length before
      → ((k : ℕ) (d : Station T) → k < length before → IsServed right (get_or before k d) (get_or after k d)) → IsWholeMake (map lane_of_station after) × (first_make (map lane_of_station after) ≡ make)
  whole_after make lanes before [] new many nonempty is same served = absurd (let a : length (map lane_of_station before) ≡ length lanes = ap length is in let b = length-map before lane_of_station in omega arith)
  whole_after make lanes before (e ∷ rest) new many nonempty is same served =
      let a : length (map lane_of_station before) ≡ length lanes = ap length is in let b = length-map before lane_of_station in let c = length-map (e ∷ rest) lane_of_station in
      let at : (k : ℕ) (s : Standing) → k < length (e ∷ rest) → IsLaneOf make k (get_or (map lane_of_station (e ∷ rest)) k s) = λ k s lt.
      (let was : get_or lanes k s ≡ (get_or before k e).lane = ap (λ (l : List Standing). get_or l k s) (sym is) ∙ get_or-map lane_of_station before k e s (omega arith) in
      let now : get_or (map lane_of_station (e ∷ rest)) k s ≡ (get_or (e ∷ rest) k e).lane = get_or-map lane_of_station (e ∷ rest) k e s lt in
      let n = new k s (omega arith) in
      let v = served k e (omega arith) in
      record {
        of = ap (λ (u : Standing). u.make) now ∙ v.make ∙ ap (λ (u : Standing). u.make) (sym was) ∙ n.of;
        at = ap (λ (u : Standing). u.own) now ∙ v.own ∙ ap (λ (u : Standing). u.own) (sym was) ∙ n.at;
      }) in
      let first : e.lane.make ≡ make = (at 0 e.lane (omega arith)).of in (
        record {
          some = omega arith;
          all = record {
            many = omega arith ∙ ap (λ (m : Make). length m.deques) (sym first);
            each = λ k s lt. let h = at k s (omega arith) in record { of = h.of ∙ sym first; at = h.at };
          };
        },
        first,
      )

  -- the lanes that `close` is given after their work
  pub closed_whole : (deal : Deal) (pieces n : ℕ) (lanes worked : List Standing) (before after : List (Station T)) → 1 ≤ n → IsNewMake deal pieces n lanes → map lane_of_station before ≡ lanes → length after ≡ length before
      → ((k : ℕ) (d : Station T) → k < length before → IsServed right (get_or before k d) (get_or after k d)) → worked ≡ map lane_of_station after → IsWholeMake worked × ((first_make worked).pieces ≡ pieces)
  closed_whole deal pieces n lanes worked before after some m is same served e =
      let many = m.many in
      let w = whole_after m.make lanes before after m.each (m.many ∙ sym m.deques) (omega arith) is same served in
      (subst IsWholeMake (sym e) w.0, ap (λ (l : List Standing). (first_make l).pieces) e ∙ ap (λ (u : Make). u.pieces) w.1 ∙ m.of)

-- the lane of each station was dealt the job's pieces
pub pieces_of_station : {T : Type 0} (deal : Deal) (pieces n bound : ℕ) (lanes : List Standing) (all : List (Station T)) → IsNewMake deal pieces n lanes → pieces ≤ bound → map lane_of_station all ≡ lanes
    → (k : ℕ) (d : Station T) → k < length all → (get_or all k d).lane.make.pieces ≤ bound
pieces_of_station deal pieces n bound lanes all m le is k d lt =
    let few : length (map lane_of_station all) ≡ length lanes = ap length is in
    let same = length-map all lane_of_station in
    let was : get_or lanes k d.lane ≡ (get_or all k d).lane = ap (λ (l : List Standing). get_or l k d.lane) (sym is) ∙ get_or-map lane_of_station all k d d.lane lt in
    let p : (get_or all k d).lane.make.pieces ≡ pieces = ap (λ (s : Standing). s.make.pieces) (sym was) ∙ ap (λ (u : Make). u.pieces) (m.each k d.lane (omega arith)).of ∙ m.of in
    omega arith

-- what `close` tells, over the slots
pub once_of : (pieces made n : ℕ) (taken : List (List ℕ)) (left : List ℕ) → made ≡ pieces → n ≡ pieces → HoldEachOnce made taken left → HoldEachOnce n taken left
once_of pieces made n taken left b d once x = once x ∙ ap (λ (k : ℕ). count_in x (upto k)) (b ∙ sym d)

pub taken_few : (n : ℕ) (taken : List (List ℕ)) (left : List ℕ) → HoldEachOnce n taken left → AreGivenOnce n taken
taken_few n taken left once x = let o = once x in omega arith

pub left_few : (n : ℕ) (taken : List (List ℕ)) (left : List ℕ) → HoldEachOnce n taken left → AreDistinctPieces n left
left_few n taken left once x = let o = once x in omega arith
