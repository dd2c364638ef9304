-- A lane as its callers see it, and what is known of its deque and its passes.
use Rattle.std.specs.Prelude.{◌≡◌, ℕ, ◌<◌, ◌≤◌, eqb, cond, List, [], length, map, slice_index_or, filter}
use Rattle.std.specs.declared.alloc.Global.{Global}
use Rattle.std.specs.declared.vec.Vec.{Vec}
use Rattle.crossbeam_deque.specs.Handles.{view, IsPassOf, worker_deque, stealer_deque, worker_view, worker_capacity, worker_index}
use Rattle.crossbeam_deque.specs.declared.handles.Worker.{Worker}
use Rattle.pp_steal.specs.declared.deal.Deal.{Deal}
use Rattle.pp_steal.specs.declared.view.Role.TheVariants.{Owner, Marked, Guest}
use Rattle.pp_steal.specs.declared.view.View.{View}
use Rattle.pp_steal.specs.declared.view.OnceEach.{OnceEach}
use Rattle.pp_steal.specs.declared.chair.Chair.{Chair}
use Rattle.pp_steal.specs.declared.make.DealTable.{DealTable}
use Rattle.pp_steal.specs.Pool.{a_view, marked}
use Rattle.pp_steal.specs.Dealing.{is_of, dealt_to, AreDistinctPieces}

-- a deque's name
abbrev pub DequeId : Type 0
DequeId = ℕ × ℕ

-- one call of `Lanes::make`: its deques, by lane, and what it dealt
pub record Make : Type 0 where
  pub deques : List DequeId
  pub deal : Deal
  pub pieces : ℕ

-- A lane as callers see it: the make that it is of, its own number, the pieces that its deque was dealt, and those that
-- it took. Also how often its own deque gave nothing, and how often that of each lane did.
pub record Standing : Type 0 where
  pub make : Make
  pub own : ℕ
  pub dealt : List ℕ
  pub taken : List ℕ
  pub empties : ℕ
  pub misses : List ℕ

-- the lane's deque was dealt the pieces of the make that go to the lane
abbrev pub HasItsPieces : Standing → Type 0
HasItsPieces s = s.dealt ≡ dealt_to s.make.deal (length s.make.deques) s.make.pieces s.own

-- what the lane took
abbrev pub taken_of : Standing → List ℕ
taken_of s = s.taken

-- the deque at which the chair stands
abbrev pub deque_of : Chair → DequeId
deque_of c = (stealer_deque c.thief).0

-- a chair at the deque of `lane`: its pass knows what this lane took there, and at its own deque it
-- takes nothing
pub record Sits (deal : Deal) (lanes pieces own : ℕ) (taken : List ℕ) (lane : ℕ)
    (c : Chair) : Type 0 where
  pub pass : IsPassOf (stealer_deque c.thief) c.pass
  pub guest : (view c.pass).role ≡ Guest
  pub dealt : (view c.pass).dealt ≡ dealt_to deal lanes pieces lane
  pub took : (view c.pass).taken ≡ cond (eqb lane own) [] (filter (is_of deal lanes lane) taken)

-- each chair sits at the deque of the lane whose place it has
abbrev pub AllSit : Deal → ℕ → ℕ → ℕ → List ℕ → List Chair → Type 0
AllSit deal lanes pieces own taken chairs = (lane : ℕ) (c : Chair) → lane < length chairs
    → Sits deal lanes pieces own taken lane (slice_index_or chairs lane c)

-- What a lane knows. What it took are pieces, none of them twice. Of these, each pass knows those
-- that were dealt to its deque; at its own deque that is the owner's pass
pub record Tends (deal : Deal) (pieces own : ℕ) (taken : List ℕ) (mine : View)
    (chairs : List Chair) : Type 0 where
  pub below : own < length chairs
  pub few : length chairs ≤ 64
  pub distinct : AreDistinctPieces pieces taken
  pub marked : mine.role ≡ Marked
  pub dealt : mine.dealt ≡ dealt_to deal (length chairs) pieces own
  pub took : mine.taken ≡ filter (is_of deal (length chairs) own) taken
  pub sit : AllSit deal (length chairs) pieces own taken chairs

-- the owners' handles of some deques
abbrev pub Deques : Type 0
Deques = List (Worker ℕ Global View OnceEach)

-- a deque with room for all pieces, which was dealt these pieces of them and gave none
pub record IsDealt (deal : Deal) (lanes pieces dealt lane : ℕ)
    (w : Worker ℕ Global View OnceEach) : Type 0 where
  pub room : pieces ≤ worker_capacity w
  pub used : worker_index w ≤ dealt
  pub knows : worker_view w ≡ a_view Owner (dealt_to deal lanes dealt lane) []

-- the pieces below `dealt` were dealt, each to its lane's deque
abbrev pub AreDealt : Deal → ℕ → ℕ → ℕ → Deques → Type 0
AreDealt deal lanes pieces dealt workers =
    (lane : ℕ) (w : Worker ℕ Global View OnceEach) → lane < length workers
    → IsDealt deal lanes pieces dealt lane (slice_index_or workers lane w)

-- the owner of a deque that was dealt the lane's pieces, of which it took none
abbrev pub IsReadyView : Deal → ℕ → ℕ → ℕ → View → Type 0
IsReadyView deal lanes pieces lane v =
    (marked v.role ≡ Marked) × (v.dealt ≡ dealt_to deal lanes pieces lane) × (v.taken ≡ [])

-- each owner is ready
abbrev pub AreOwnersReady : Deal → ℕ → ℕ → Deques → Type 0
AreOwnersReady deal lanes pieces workers =
    (lane : ℕ) (w : Worker ℕ Global View OnceEach) → lane < length workers
    → IsReadyView deal lanes pieces lane (worker_view (slice_index_or workers lane w))

-- the first owners are marked as split
abbrev pub AreMarked : ℕ → Deques → Type 0
AreMarked below workers =
    (lane : ℕ) (w : Worker ℕ Global View OnceEach) → lane < length workers → lane < below
    → (worker_view (slice_index_or workers lane w)).role ≡ Marked

-- which deques they are
abbrev pub homes_of : Deques → List (DequeId × Global)
homes_of workers = map (λ (w : Worker ℕ Global View OnceEach). worker_deque w) workers

-- at which deques the chairs stand
abbrev pub homes_at : List Chair → List (DequeId × Global)
homes_at chairs = map (λ (c : Chair). stealer_deque c.thief) chairs

-- a chair with which nothing was taken
abbrev pub IsFresh : List ℕ → Chair → Type 0
IsFresh dealt c =
    IsPassOf (stealer_deque c.thief) c.pass × (view c.pass ≡ a_view Guest dealt []) × (c.misses ≡ 0)

-- each chair is fresh, and its pass knows the pieces that were dealt to the lane whose place it has
abbrev pub AreFresh : Deal → ℕ → ℕ → List Chair → Type 0
AreFresh deal lanes pieces chairs = (lane : ℕ) (c : Chair) → lane < length chairs
    → IsFresh (dealt_to deal lanes pieces lane) (slice_index_or chairs lane c)

-- fresh chairs of one lane, at these deques
abbrev pub IsNewRow : Deal → ℕ → ℕ → List (DequeId × Global) → Vec Chair Global → Type 0
IsNewRow deal lanes pieces homes row =
    (homes_at row.items ≡ homes) × AreFresh deal lanes pieces row.items

-- the rows of some lanes are new
abbrev pub AreNewRows : Deal → ℕ → ℕ → List (DequeId × Global) → List (Vec Chair Global) → Type 0
AreNewRows deal lanes pieces homes rows = (k : ℕ) (row : Vec Chair Global) → k < length rows
    → IsNewRow deal lanes pieces homes (slice_index_or rows k row)

-- the make with these fields
abbrev pub the_make : List DequeId → Deal → ℕ → Make
the_make deques deal pieces = record { deques = deques; deal = deal; pieces = pieces }

-- the make over these deques
abbrev pub make_of : List (DequeId × Global) → Deal → ℕ → Make
make_of homes deal pieces = the_make (map (λ (h : DequeId × Global). h.0) homes) deal pieces

-- the deques of a table, whose owners are ready
abbrev pub IsReadyTable : DealTable → Type 0
IsReadyTable t = AreOwnersReady t.deal (length t.workers.items) t.pieces t.workers.items

-- and are all marked as split
abbrev pub IsMarkedTable : DealTable → Type 0
IsMarkedTable t = AreMarked (length t.workers.items) t.workers.items

-- the table over the same deques, with the same pieces
pub record IsSameTable (before after : DealTable) : Type 0 where
  pub deal : after.deal ≡ before.deal
  pub pieces : after.pieces ≡ before.pieces
  pub homes : homes_of after.workers.items ≡ homes_of before.workers.items

-- a new chair at each deque of the table
abbrev pub IsChairRow : DealTable → Vec Chair Global → Type 0
IsChairRow t row = IsNewRow t.deal (length t.workers.items) t.pieces (homes_of t.workers.items) row

-- rows of such chairs
abbrev pub AreRowsOf : DealTable → List (Vec Chair Global) → Type 0
AreRowsOf t rows =
    AreNewRows t.deal (length t.workers.items) t.pieces (homes_of t.workers.items) rows

-- the make that comes of the table
abbrev pub make_of_table : DealTable → Make
make_of_table t = make_of (homes_of t.workers.items) t.deal t.pieces

-- the lane has this number in this make
pub record IsLaneOf (make : Make) (lane : ℕ) (s : Standing) : Type 0 where
  pub of : s.make ≡ make
  pub at : s.own ≡ lane

-- they are all the lanes of the make, in their order
pub record AreLanesOf (make : Make) (lanes : List Standing) : Type 0 where
  pub many : length lanes ≡ length make.deques
  pub each : (lane : ℕ) (s : Standing) → lane < length lanes
      → IsLaneOf make lane (slice_index_or lanes lane s)

-- a lane whose deque was dealt its pieces, and which has taken nothing
pub record IsNewLane (make : Make) (lane : ℕ) (s : Standing) : Type 0 where
  pub of : s.make ≡ make
  pub at : s.own ≡ lane
  pub dealt : s.dealt ≡ dealt_to make.deal (length make.deques) make.pieces lane
  pub taken : s.taken ≡ []

-- the first lanes of a make, which were dealt their pieces and have taken nothing
abbrev pub AreNewLanes : Make → List Standing → Type 0
AreNewLanes make lanes =
    (lane : ℕ) (s : Standing) → lane < length lanes
    → IsNewLane make lane (slice_index_or lanes lane s)

-- n lanes of one make, to which the pieces below `pieces` were dealt in this way, and which have
-- taken nothing
pub record IsNewMake (deal : Deal) (pieces n : ℕ) (lanes : List Standing) : Type 0 where
  pub make : Make
  pub by : make.deal ≡ deal
  pub of : make.pieces ≡ pieces
  pub deques : length make.deques ≡ n
  pub many : length lanes ≡ n
  pub each : AreNewLanes make lanes
