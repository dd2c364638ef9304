-- How lanes are dealt to, and what a new chair knows.
use Rattle.std.proofs.Common.{◌≡◌, ℕ, zero, suc, ◌+◌, ◌<◌, ◌≤◌, cond, Bool, true, false, List, [], ◌∷◌, ◌++◌, length, set, get_or, take, map, sym, refl, ap, ◌∙◌, subst, arith, add-one, append-nil, filter, eq-eqb, ne_eqb}
use Rattle.pp_steal.specs.declared.view.Role.{Role}
use Rattle.pp_steal.specs.declared.view.Role.TheVariants.{Owner, Marked, Guest, Spent}
use Rattle.pp_steal.specs.Pool.{AllUnder, TakesPart, marked, a_view, Deals, mark}
use Rattle.pp_steal.specs.declared.view.View.{View}
use Rattle.pp_steal.specs.Dealing.{upto}
use Rattle.std.specs.declared.alloc.Global.{Global}
use Rattle.std.specs.declared.vec.Vec.{Vec}
use Rattle.std.proofs.Math.Seq.{map-set_same, take-suc}
use Rattle.std.proofs.lemmas.List.{get_or-map, length-map, map-append}
use Rattle.crossbeam_deque.specs.Handles.{worker_deque, stealer_deque, worker_view, worker_capacity, worker_index}
use Rattle.crossbeam_deque.specs.declared.handles.Worker.{Worker}
use Rattle.pp_steal.specs.declared.view.OnceEach.{OnceEach}
use Rattle.pp_steal.specs.declared.deal.Deal.{Deal}
use Rattle.pp_steal.specs.declared.chair.Chair.{Chair}
use Rattle.pp_steal.specs.Dealing.{dealt_to, is_of, lane_of}
use Rattle.pp_steal.specs.Lanes.{Make, Standing, HasItsPieces, AreNewRows, IsNewRow, IsNewLane, AreNewLanes, IsNewMake, IsDealt, AreDealt, IsReadyView, AreOwnersReady, AreMarked, Deques, deque_of, homes_of, homes_at, IsFresh, AreFresh, make_of, the_make}
use Rattle.pp_steal.proofs.Dealt.{filter-append}
use Rattle.pp_steal.proofs.Each.{each_set, each_push, each_split}

under_more : (xs : List ℕ) (p : ℕ) → AllUnder p xs → AllUnder (suc p) xs
under_more [] p h = tt
under_more (x ∷ xs) p h = ((let a = h.0 in omega arith), under_more xs p h.1)

under_push : (xs : List ℕ) (p : ℕ) → AllUnder p xs → AllUnder (suc p) (xs ++ p ∷ [])
under_push [] p h = (omega arith, tt)
under_push (x ∷ xs) p h = ((let a = h.0 in omega arith), under_push xs p h.1)

pub under_upto : (n : ℕ) → AllUnder n (upto n)
under_upto zero = tt
under_upto (suc n) = under_push (upto n) n (under_upto n)

under_only : (p : ℕ → Bool) (n : ℕ) (xs : List ℕ) → AllUnder n xs → AllUnder n (filter p xs)
under_only p n [] h = tt
under_only p n (x ∷ xs) h = let P : Bool → Type 0 = λ b. AllUnder n (cond b (x ∷ filter p xs) (filter p xs)) in elim (p x) as P [ true ↦ (h.0, under_only p n xs h.1) | false ↦ under_only p n xs h.1 ]

-- the pieces dealt so far are below the next one
pub under_next : (p : ℕ → Bool) (n : ℕ) → AllUnder n (filter p (upto n))
under_next p n = under_only p n (upto n) (under_upto n)

pub upto_more : (n : ℕ) → upto (n + 1) ≡ upto n ++ n ∷ []
upto_more n = rw add-one refl

pub filter_dealt : (p : ℕ → Bool) (n : ℕ) → p n ≡ true → filter p (upto (n + 1)) ≡ filter p (upto n) ++ n ∷ []
filter_dealt p n e = ap (filter p) (upto_more n) ∙ filter-append p (upto n) (n ∷ []) ∙ ap (λ (b : Bool). filter p (upto n) ++ cond b (n ∷ []) []) e

pub filter_passed : (p : ℕ → Bool) (n : ℕ) → p n ≡ false → filter p (upto (n + 1)) ≡ filter p (upto n)
filter_passed p n e = ap (filter p) (upto_more n) ∙ filter-append p (upto n) (n ∷ []) ∙ ap (λ (b : Bool). filter p (upto n) ++ cond b (n ∷ []) []) e ∙ append-nil (filter p (upto n))

pub live_of : (r : Role) → marked r ≡ Marked → TakesPart r
live_of Owner e = tt
live_of Marked e = tt
live_of Guest e = tt
live_of Spent e = cc

pub dealt_one : (p : ℕ → Bool) (n : ℕ) (v w : View) → v ≡ a_view Owner (filter p (upto n)) [] → Deals v (n ∷ []) w → p n ≡ true → w ≡ a_view Owner (filter p (upto (n + 1))) []
dealt_one p n v w e step yes_ = step ∙ ap (λ (u : View). a_view u.role (u.dealt ++ n ∷ []) u.taken) e ∙ ap (λ (l : List ℕ). a_view Owner l []) (sym (filter_dealt p n yes_))

pub passed_one : (p : ℕ → Bool) (n : ℕ) (v : View) → v ≡ a_view Owner (filter p (upto n)) [] → p n ≡ false → v ≡ a_view Owner (filter p (upto (n + 1))) []
passed_one p n v e no_ = e ∙ ap (λ (l : List ℕ). a_view Owner l []) (sym (filter_passed p n no_))

abbrev Deque : Type 0
Deque = Worker ℕ Global View OnceEach

-- a deque with room for all pieces, to which nothing was dealt
pub new_deque : (deal : Deal) (lanes pieces lane : ℕ) (w : Deque) → pieces ≤ worker_capacity {T = ℕ} {A = Global} {V = View} {P = OnceEach} w → worker_index {T = ℕ} {A = Global} {V = View} {P = OnceEach} w ≡ 0
    → worker_view {T = ℕ} {A = Global} {V = View} {P = OnceEach} w ≡ a_view Owner [] [] → IsDealt deal lanes pieces 0 lane w
new_deque deal lanes pieces lane w room used knows = record { room = room; used = omega arith; knows = knows }

-- the pieces dealt to a deque are below the next one
pub dealt_under : (deal : Deal) (lanes pieces piece lane : ℕ) (workers : Deques) (w : Deque) → lane < length workers → w ≡ get_or workers lane w → AreDealt deal lanes pieces piece workers
    → AllUnder piece (worker_view {T = ℕ} {A = Global} {V = View} {P = OnceEach} w).dealt
dealt_under deal lanes pieces piece lane workers w lt is all =
    let was : IsDealt deal lanes pieces piece lane w = subst (IsDealt deal lanes pieces piece lane) (sym is) (all lane w lt) in
    subst (λ (v : View). AllUnder piece v.dealt) (sym was.knows) (under_next (is_of deal lanes lane) piece)

-- one piece is dealt to its lane's deque
pub deal_more : (deal : Deal) (lanes pieces piece lane : ℕ) (workers : Deques) (w w' : Deque) → lane < length workers → lane ≡ lane_of deal lanes piece → w ≡ get_or workers lane w → AreDealt deal lanes pieces piece workers
    → worker_capacity {T = ℕ} {A = Global} {V = View} {P = OnceEach} w ≤ worker_capacity {T = ℕ} {A = Global} {V = View} {P = OnceEach} w'
    → worker_index {T = ℕ} {A = Global} {V = View} {P = OnceEach} w' ≡ worker_index {T = ℕ} {A = Global} {V = View} {P = OnceEach} w + 1
    → Deals (worker_view {T = ℕ} {A = Global} {V = View} {P = OnceEach} w) (piece ∷ []) (worker_view {T = ℕ} {A = Global} {V = View} {P = OnceEach} w') → AreDealt deal lanes pieces (piece + 1) (set workers lane w')
deal_more deal lanes pieces piece lane workers w w' lt at is all room used step =
    let was : IsDealt deal lanes pieces piece lane w = subst (IsDealt deal lanes pieces piece lane) (sym is) (all lane w lt) in
    let mine : IsDealt deal lanes pieces (piece + 1) lane w' = record {
      room = (let a = was.room in omega arith);
      used = (let a = was.used in omega arith);
      knows = dealt_one (is_of deal lanes lane) piece (worker_view w) (worker_view w') was.knows step (eq-eqb (lane_of deal lanes piece) lane (sym at));
    } in
    each_set (IsDealt deal lanes pieces (piece + 1)) workers lane w' lt mine
    (λ j d below other. let u = all j d below in record {
      room = u.room;
      used = (let a = u.used in omega arith);
      knows = passed_one (is_of deal lanes j) piece (worker_view (get_or workers j d)) u.knows (ne_eqb (lane_of deal lanes piece) j (λ e. other (sym e ∙ sym at)));
    })

-- one more chair of a row, at the lane's deque
pub seat_keeps : (deal : Deal) (lanes pieces lane : ℕ) (workers : Deques) (w w' : Deque) → lane < length workers → w ≡ get_or workers lane w → worker_view w' ≡ mark (worker_view w) → AreOwnersReady deal lanes pieces workers → AreMarked lane workers
    → AreOwnersReady deal lanes pieces (set workers lane w') × AreMarked (lane + 1) (set workers lane w')
seat_keeps deal lanes pieces lane workers w w' lt is step ready marks =
    let mine : IsReadyView deal lanes pieces lane (worker_view w) = subst (λ (u : Deque). IsReadyView deal lanes pieces lane (worker_view u)) (sym is) (ready lane w lt) in
    let role : (worker_view w').role ≡ Marked = ap (λ (v : View). v.role) step ∙ mine.0 in (
      each_set (λ (j : ℕ) (u : Deque). IsReadyView deal lanes pieces j (worker_view u)) workers lane w' lt (ap marked role, ap (λ (v : View). v.dealt) step ∙ mine.1, ap (λ (v : View). v.taken) step ∙ mine.2) (λ j d below n. ready j d below),
      each_set (λ (j : ℕ) (u : Deque). j < lane + 1 → (worker_view u).role ≡ Marked) workers lane w' lt (λ _. role) (λ j d below n m. marks j d below (omega arith)),
    )

pub seat_homes : (workers : Deques) (lane : ℕ) (w w' : Deque) → w ≡ get_or workers lane w → worker_deque w' ≡ worker_deque w → homes_of (set workers lane w') ≡ homes_of workers
seat_homes workers lane w w' is same = map-set_same (λ (u : Deque). worker_deque u) workers lane w' w (same ∙ ap (λ (u : Deque). worker_deque u) is)

pub chairs_more : (deal : Deal) (lanes pieces : ℕ) (workers : Deques) (chairs : List Chair) (w : Deque) (c : Chair) → length chairs < length workers → AreOwnersReady deal lanes pieces workers → w ≡ get_or workers (length chairs) w
    → (stealer_deque c.thief ≡ worker_deque w) × IsFresh (worker_view w).dealt c → homes_at chairs ≡ take (length chairs) (homes_of workers) → AreFresh deal lanes pieces chairs
    → (homes_at (chairs ++ c ∷ []) ≡ take (length chairs + 1) (homes_of workers)) × AreFresh deal lanes pieces (chairs ++ c ∷ [])
chairs_more deal lanes pieces workers chairs w c lt ready is fresh homes all =
    let homing : Chair → (ℕ × ℕ) × Global = λ (k : Chair). stealer_deque k.thief in
    let homing' : Deque → (ℕ × ℕ) × Global = λ (u : Deque). worker_deque u in
    let last : worker_deque w ≡ get_or (homes_of workers) (length chairs) (worker_deque w) = ap homing' is ∙ sym (get_or-map homing' workers (length chairs) w (worker_deque w) lt) in
    let more : take (length chairs + 1) (homes_of workers) ≡ take (length chairs) (homes_of workers) ++ get_or (homes_of workers) (length chairs) (worker_deque w) ∷ [] = rw add-one (take-suc (homes_of workers) (length chairs) (worker_deque w) (omega (arith, length-map workers homing'))) in
    let mine : IsReadyView deal lanes pieces (length chairs) (worker_view w) = subst (λ (u : Deque). IsReadyView deal lanes pieces (length chairs) (worker_view u)) (sym is) (ready (length chairs) w lt) in (
      map-append homing chairs (c ∷ []) ∙ ap (λ l. l ++ homing c ∷ []) homes ∙ ap (λ x. take (length chairs) (homes_of workers) ++ x ∷ []) (fresh.0 ∙ last) ∙ sym more,
      each_push (λ (j : ℕ) (u : Chair). IsFresh (dealt_to deal lanes pieces j) u) chairs c (subst (λ (l : List ℕ). IsFresh l c) mine.1 fresh.1) all,
    )

pub deques_of_homes : (chairs : List Chair) → map deque_of chairs ≡ map (λ (h : (ℕ × ℕ) × Global). h.0) (homes_at chairs)
deques_of_homes [] = refl
deques_of_homes (c ∷ chairs) = ap (λ (l : List (ℕ × ℕ)). deque_of c ∷ l) (deques_of_homes chairs)

pub make_at : (chairs : List Chair) (deal : Deal) (pieces : ℕ) → the_make (map deque_of chairs) deal pieces ≡ make_of (homes_at chairs) deal pieces
make_at chairs deal pieces = ap (λ (l : List (ℕ × ℕ)). the_make l deal pieces) (deques_of_homes chairs)

abbrev homing : Chair → (ℕ × ℕ) × Global
homing c = stealer_deque c.thief

abbrev homing' : Deque → (ℕ × ℕ) × Global
homing' u = worker_deque u

pub as_many : (workers : Deques) (chairs : List Chair) → homes_at chairs ≡ homes_of workers → length chairs ≡ length workers
as_many workers chairs homes = let e : length (homes_at chairs) ≡ length (homes_of workers) = ap length homes in omega (arith, length-map chairs homing, length-map workers homing')

pub lane_home : (workers : Deques) (chairs : List Chair) (own : ℕ) (w : Deque) → homes_at chairs ≡ homes_of workers → own < length workers → w ≡ get_or workers own w → (c : Chair) → worker_deque w ≡ stealer_deque (get_or chairs own c).thief
lane_home workers chairs own w homes lt is c = let h = worker_deque w in let e = as_many workers chairs homes in
    ap homing' is ∙ sym (get_or-map homing' workers own w h lt) ∙ ap (λ (l : List ((ℕ × ℕ) × Global)). get_or l own h) (sym homes) ∙ get_or-map homing chairs own c h (omega arith)

pub row_last : (deal : Deal) (lanes pieces : ℕ) (homes : List ((ℕ × ℕ) × Global)) (rows rest : List (Vec Chair Global)) (row : Vec Chair Global) → AreNewRows deal lanes pieces homes rows → rows ≡ rest ++ row ∷ []
    → AreNewRows deal lanes pieces homes rest × IsNewRow deal lanes pieces homes row
row_last deal lanes pieces homes rows rest row all e = each_split (λ (j : ℕ) (r : Vec Chair Global). IsNewRow deal lanes pieces homes r) rest row (subst (AreNewRows deal lanes pieces homes) e all)

pub lanes_more : (make : Make) (lanes : List Standing) (lane : Standing) → AreNewLanes make lanes → (lane.make ≡ make) → (lane.own ≡ length lanes) × (lane.taken ≡ []) → HasItsPieces lane → AreNewLanes make (lanes ++ lane ∷ [])
lanes_more make lanes lane all is own has =
    let of_make : lane.dealt ≡ dealt_to make.deal (length make.deques) make.pieces lane.own = subst (λ (m : Make). lane.dealt ≡ dealt_to m.deal (length m.deques) m.pieces lane.own) is has in
    let dealt : lane.dealt ≡ dealt_to make.deal (length make.deques) make.pieces (length lanes) = subst (λ (k : ℕ). lane.dealt ≡ dealt_to make.deal (length make.deques) make.pieces k) own.0 of_make in
    each_push (IsNewLane make) lanes lane (record { of = is; at = own.0; dealt = dealt; taken = own.1 }) all

-- the pieces of a lane that has a chair at each deque
pub its_pieces : (deal : Deal) (pieces own : ℕ) (chairs : List Chair) (dealt : List ℕ) → dealt ≡ dealt_to deal (length chairs) pieces own → dealt ≡ dealt_to deal (length (map deque_of chairs)) pieces own
its_pieces deal pieces own chairs dealt e = e ∙ ap (λ (n : ℕ). dealt_to deal n pieces own) (sym (length-map chairs deque_of))

pub ready_at : (deal : Deal) (lanes pieces : ℕ) (workers : Deques) (own : ℕ) (w : Deque) → own < length workers → w ≡ get_or workers own w → AreOwnersReady deal lanes pieces workers → AreMarked (length workers) workers
    → IsReadyView deal lanes pieces own (worker_view w) × ((worker_view {T = ℕ} {A = Global} {V = View} {P = OnceEach} w).role ≡ Marked)
ready_at deal lanes pieces workers own w lt is ready marks = (
  subst (λ (u : Deque). IsReadyView deal lanes pieces own (worker_view u)) (sym is) (ready own w lt),
  subst (λ (u : Deque). (worker_view {T = ℕ} {A = Global} {V = View} {P = OnceEach} u).role ≡ Marked) (sym is) (marks own w lt lt),
)

-- the lanes that were made are those of a new make
pub new_make : (dealt workers : Deques) (deal deal' : Deal) (pieces pieces' n : ℕ) (lanes : List Standing) → length dealt ≡ n → homes_of workers ≡ homes_of dealt → length lanes ≡ length workers → deal' ≡ deal → pieces' ≡ pieces
    → AreNewLanes (make_of (homes_of workers) deal' pieces') lanes → IsNewMake deal pieces n lanes
new_make dealt workers deal deal' pieces pieces' n lanes count homes many by of all =
    let e : length (homes_of workers) ≡ length (homes_of dealt) = ap length homes in
    let a = length-map workers homing' in
    let b = length-map dealt homing' in
    let d = length-map (homes_of workers) (λ (h : (ℕ × ℕ) × Global). h.0) in
    record { make = make_of (homes_of workers) deal' pieces'; by = by; of = of; deques = omega arith; many = omega arith; each = all }
