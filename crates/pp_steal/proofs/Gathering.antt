-- The parts of all lanes.
use Rattle.std.proofs.Common.{◌≡◌, ℕ, ◌+◌, ◌<◌, List, [], ◌∷◌, ◌++◌, length, length-append, get_or, take, map, sym, refl, ap, ◌∙◌, subst, arith, add-one}
use native.Mathlib.Decide.{ℕ_discrete}
use Rattle.std.specs.declared.alloc.Global.{Global}
use Rattle.std.specs.declared.vec.Vec.{Vec}
use Rattle.std.proofs.Math.Seq.{take-suc, take-length}
use Rattle.std.proofs.lemmas.List.{get_or-map, length-map, map-append, length-take-le}
use Rattle.crossbeam_deque.specs.Handles.{worker_deque, stealer_deque, worker_view}
use Rattle.crossbeam_deque.specs.declared.handles.Worker.{Worker}
use Rattle.pp_steal.specs.declared.view.View.{View}
use Rattle.pp_steal.specs.declared.view.OnceEach.{OnceEach}
use Rattle.pp_steal.specs.declared.deal.Deal.{Deal}
use Rattle.pp_steal.specs.declared.chair.Chair.{Chair}
use Rattle.pp_steal.specs.Lanes.{Make, Standing, Tends, Deques, deque_of, taken_of, homes_of, homes_at, AreLanesOf}
use Rattle.pp_steal.specs.Closing.{id_of, Gathers, AreParts}
use Rattle.pp_steal.proofs.Each.{each_push, get_end, get_left}

abbrev Deque : Type 0
Deque = Worker ℕ Global View OnceEach

abbrev Row : Type 0
Row = Vec Chair Global

id_at : (chairs : List Chair) (k : ℕ) (h : (ℕ × ℕ) × Global) → k < length chairs → ((c : Chair) → h ≡ stealer_deque (get_or chairs k c).thief) → h.0 ≡ get_or (map deque_of chairs) k h.0
id_at [] k h lt is = absurd (omega arith)
id_at (c ∷ chairs) k h lt is = ap (λ (x : (ℕ × ℕ) × Global). x.0) (is c) ∙ sym (get_or-map deque_of (c ∷ chairs) k c h.0 lt)

pub gathers_none : (make : Make) (lanes : List Standing) → Gathers make 0 lanes [] [] []
gathers_none make lanes = record { count = refl; rows_too = refl; ids = refl; deques = λ j row lt. absurd (omega arith); took = refl; tend = λ j w row lt. absurd (omega arith) }

tend_more : (deal : Deal) (pieces k : ℕ) (workers : Deques) (rows : List Row) (taken : List (List ℕ)) (w : Deque) (row : Row) (took : List ℕ) → length workers ≡ k → length rows ≡ k → length taken ≡ k → Tends deal pieces k took (worker_view w) row.items
    → ((j : ℕ) (u : Deque) (r : Row) → j < k → Tends deal pieces j (get_or taken j []) (worker_view (get_or workers j u)) (get_or rows j r).items)
    → (j : ℕ) (u : Deque) (r : Row) → j < k + 1 → Tends deal pieces j (get_or (taken ++ took ∷ []) j []) (worker_view (get_or (workers ++ w ∷ []) j u)) (get_or (rows ++ row ∷ []) j r).items
tend_more deal pieces k workers rows taken w row took a b d mine rest j u r lt =
    let T : ℕ → List ℕ → Deque → Row → Type 0 = λ n l v s. Tends deal pieces n l (worker_view v) s.items in
    elim (ℕ_discrete j k) as (λ _. T j (get_or (taken ++ took ∷ []) j []) (get_or (workers ++ w ∷ []) j u) (get_or (rows ++ row ∷ []) j r)) [
      | yes e ↦
          let t1 : get_or (taken ++ took ∷ []) j [] ≡ took = ap (λ (n : ℕ). get_or (taken ++ took ∷ []) n []) (e ∙ sym d) ∙ get_end (λ (_ : ℕ) (_ : List ℕ). Unit {0}) taken took [] in
          let t2 : get_or (workers ++ w ∷ []) j u ≡ w = ap (λ (n : ℕ). get_or (workers ++ w ∷ []) n u) (e ∙ sym a) ∙ get_end (λ (_ : ℕ) (_ : Deque). Unit {0}) workers w u in
          let t3 : get_or (rows ++ row ∷ []) j r ≡ row = ap (λ (n : ℕ). get_or (rows ++ row ∷ []) n r) (e ∙ sym b) ∙ get_end (λ (_ : ℕ) (_ : Row). Unit {0}) rows row r in
          subst (λ (l : List ℕ). T j l (get_or (workers ++ w ∷ []) j u) (get_or (rows ++ row ∷ []) j r)) (sym t1)
          (subst (λ (v : Deque). T j took v (get_or (rows ++ row ∷ []) j r)) (sym t2)
          (subst (λ (s : Row). T j took w s) (sym t3) (subst (λ (n : ℕ). T n took w row) (sym e) mine)))
      | no n ↦
          let t1 : get_or (taken ++ took ∷ []) j [] ≡ get_or taken j [] = get_left (λ (_ : ℕ) (_ : List ℕ). Unit {0}) taken took [] j (omega arith) in
          let t2 : get_or (workers ++ w ∷ []) j u ≡ get_or workers j u = get_left (λ (_ : ℕ) (_ : Deque). Unit {0}) workers w u j (omega arith) in
          let t3 : get_or (rows ++ row ∷ []) j r ≡ get_or rows j r = get_left (λ (_ : ℕ) (_ : Row). Unit {0}) rows row r j (omega arith) in
          subst (λ (l : List ℕ). T j l (get_or (workers ++ w ∷ []) j u) (get_or (rows ++ row ∷ []) j r)) (sym t1)
          (subst (λ (v : Deque). T j (get_or taken j []) v (get_or (rows ++ row ∷ []) j r)) (sym t2)
          (subst (λ (s : Row). T j (get_or taken j []) (get_or workers j u) s) (sym t3) (rest j u r (omega arith))))
    ]

-- the next lane's parts
pub gathers_more : (make : Make) (lanes : List Standing) (k : ℕ) (s : Standing) (workers : Deques) (rows : List Row) (taken : List (List ℕ)) (w : Deque) (row : Row) (took : List ℕ) → AreLanesOf make lanes → k < length lanes → s ≡ get_or lanes k s
    → Gathers make k lanes workers rows taken → map deque_of row.items ≡ s.make.deques → took ≡ s.taken → Tends s.make.deal s.make.pieces s.own s.taken (worker_view w) row.items → ((c : Chair) → worker_deque w ≡ stealer_deque (get_or row.items s.own c).thief)
    → Gathers make (k + 1) lanes (workers ++ w ∷ []) (rows ++ row ∷ []) (taken ++ took ∷ [])
gathers_more make lanes k s workers rows taken w row took whole lt is g deques same tends home =
    let at = whole.each k s lt in
    let the : s.make ≡ make = ap (λ (u : Standing). u.make) is ∙ at.of in
    let own : s.own ≡ k = ap (λ (u : Standing). u.own) is ∙ at.at in
    let few : length taken ≡ k = ap length g.took ∙ length-map (take k lanes) taken_of ∙ length-take-le k lanes (omega arith) in
    let deq : map deque_of row.items ≡ make.deques = deques ∙ ap (λ (m : Make). m.deques) the in
    let mine : Tends make.deal make.pieces k took (worker_view w) row.items =
    subst (λ (l : List ℕ). Tends make.deal make.pieces k l (worker_view w) row.items) (sym same)
    (subst (λ (n : ℕ). Tends make.deal make.pieces n s.taken (worker_view w) row.items) own (subst (λ (m : Make). Tends m.deal m.pieces s.own s.taken (worker_view w) row.items) the tends)) in
    let home' : (c : Chair) → worker_deque w ≡ stealer_deque (get_or row.items k c).thief = subst (λ (n : ℕ). (c : Chair) → worker_deque w ≡ stealer_deque (get_or row.items n c).thief) own home in
    let id : id_of w ≡ get_or make.deques k (id_of w) = id_at row.items k (worker_deque w) mine.below home' ∙ ap (λ (l : List (ℕ × ℕ)). get_or l k (id_of w)) deq in
    let few_deques = whole.many in
    record {
      count = let c = g.count in omega (arith, length-append workers (w ∷ []));
      rows_too = let c = g.rows_too in omega (arith, length-append rows (row ∷ []));
      ids = map-append id_of workers (w ∷ []) ∙ ap (λ (l : List (ℕ × ℕ)). l ++ id_of w ∷ []) g.ids ∙ ap (λ (x : ℕ × ℕ). take k make.deques ++ x ∷ []) id ∙ sym (rw add-one (take-suc make.deques k (id_of w) (omega arith)));
      deques = each_push (λ (_ : ℕ) (r : Row). map deque_of r.items ≡ make.deques) rows row deq g.deques;
      took = ap (λ (l : List (List ℕ)). l ++ took ∷ []) g.took ∙ ap (λ (l : List ℕ). map taken_of (take k lanes) ++ l ∷ []) (same ∙ ap taken_of is) ∙ sym (ap (map taken_of) (rw add-one (take-suc lanes k s lt)) ∙ map-append taken_of (take k lanes) (get_or lanes k s ∷ []));
      tend = tend_more make.deal make.pieces k workers rows taken w row took g.count g.rows_too few mine g.tend;
    }

ids_homes : (xs ys : List ((ℕ × ℕ) × Global)) → map (λ (h : (ℕ × ℕ) × Global). h.0) xs ≡ map (λ (h : (ℕ × ℕ) × Global). h.0) ys → xs ≡ ys
ids_homes [] [] e = refl
ids_homes [] (y ∷ ys) e = cc
ids_homes (x ∷ xs) [] e = cc
ids_homes (x ∷ xs) (y ∷ ys) e = let head : x.0 ≡ y.0 = cc in let tail : map (λ (h : (ℕ × ℕ) × Global). h.0) xs ≡ map (λ (h : (ℕ × ℕ) × Global). h.0) ys = cc in
    let rest = ids_homes xs ys tail in let here : x ≡ y = ap (λ (i : ℕ × ℕ). (i, x.1)) head in λ i. here i ∷ rest i

ids_of_homes : (workers : Deques) → map (λ (h : (ℕ × ℕ) × Global). h.0) (homes_of workers) ≡ map id_of workers
ids_of_homes [] = refl
ids_of_homes (w ∷ workers) = ap (λ (l : List (ℕ × ℕ)). id_of w ∷ l) (ids_of_homes workers)

ids_of_chairs : (chairs : List Chair) → map (λ (h : (ℕ × ℕ) × Global). h.0) (homes_at chairs) ≡ map deque_of chairs
ids_of_chairs [] = refl
ids_of_chairs (c ∷ chairs) = ap (λ (l : List (ℕ × ℕ)). deque_of c ∷ l) (ids_of_chairs chairs)

pub whole_parts : (make : Make) (lanes : List Standing) (n : ℕ) (workers : Deques) (rows : List Row) (taken : List (List ℕ)) → AreLanesOf make lanes → 0 < length lanes → n ≡ length lanes → Gathers make n lanes workers rows taken
    → AreParts make.deal make.pieces workers rows taken × (taken ≡ map taken_of lanes)
whole_parts make lanes n workers rows taken whole some all g =
    let c = g.count in
    let r = g.rows_too in
    let m = whole.many in
    let took : taken ≡ map taken_of lanes = g.took ∙ ap (λ (k : ℕ). map taken_of (take k lanes)) all ∙ ap (map taken_of) (take-length lanes) in
    let ids : map id_of workers ≡ make.deques = g.ids ∙ ap (λ (k : ℕ). take k make.deques) (all ∙ m) ∙ take-length make.deques in (
      record {
        some = omega arith;
        rows_too = omega arith;
        taken_too = ap length took ∙ length-map lanes taken_of ∙ omega arith;
        homes = λ k row lt. ids_homes (homes_at (get_or rows k row).items) (homes_of workers) (ids_of_chairs (get_or rows k row).items ∙ g.deques k row lt ∙ sym ids ∙ sym (ids_of_homes workers));
        tend = λ k w row lt. g.tend k w row (omega arith);
      },
      took,
    )

pub lane_make : (make : Make) (lanes : List Standing) (k : ℕ) (s : Standing) → AreLanesOf make lanes → k < length lanes → s ≡ get_or lanes k s → s.make ≡ make
lane_make make lanes k s whole lt is = ap (λ (u : Standing). u.make) is ∙ (whole.each k s lt).of

-- a row has a chair for each lane
pub row_count : (make : Make) (lanes : List Standing) (s : Standing) (chairs : List Chair) → AreLanesOf make lanes → s.make ≡ make → map deque_of chairs ≡ s.make.deques → length chairs ≡ length lanes
row_count make lanes s chairs whole the e = let a : length (map deque_of chairs) ≡ length make.deques = ap length e ∙ ap (λ (m : Make). length m.deques) the in let b = length-map chairs deque_of in let c = whole.many in omega arith

pub parts_of : (make : Make) (deal : Deal) (pieces : ℕ) (workers : Deques) (rows : List Row) (taken : List (List ℕ)) → deal ≡ make.deal → pieces ≡ make.pieces → AreParts make.deal make.pieces workers rows taken → AreParts deal pieces workers rows taken
parts_of make deal pieces workers rows taken a b parts = subst (λ (d : Deal). AreParts d pieces workers rows taken) (sym a) (subst (λ (n : ℕ). AreParts make.deal n workers rows taken) (sym b) parts)
