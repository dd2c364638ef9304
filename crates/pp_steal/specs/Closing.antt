-- What `close` gives, and what it learns on the way. Of these words the clauses of public calls
-- cite `HoldEachOnce`, `IsWholeMake`, `first_make`, and what those are made of.
use Rattle.std.specs.Prelude.{◌≡◌, ℕ, zero, suc, ◌+◌, ◌<◌, ◌≤◌, Bool, false, ◌||◌, not, ltb, List, [], ◌∷◌, length, map, take, slice_index_or, filter}
use Rattle.std.specs.declared.alloc.Global.{Global}
use Rattle.std.specs.declared.vec.Vec.{Vec}
use Rattle.crossbeam_deque.specs.Handles.{view, IsPassOf, worker_deque, worker_view}
use Rattle.crossbeam_deque.specs.declared.handles.Worker.{Worker}
use Rattle.pp_steal.specs.declared.deal.Deal.{Deal}
use Rattle.pp_steal.specs.declared.deal.Deal.TheVariants.{First}
use Rattle.pp_steal.specs.declared.view.Role.TheVariants.{Guest}
use Rattle.pp_steal.specs.declared.view.View.{View}
use Rattle.pp_steal.specs.declared.view.OnceEach.{OnceEach}
use Rattle.pp_steal.specs.declared.chair.Chair.{Chair}
use Rattle.pp_steal.specs.Pool.{count_in}
use Rattle.pp_steal.specs.Dealing.{is_of, dealt_to, upto}
use Rattle.pp_steal.specs.Lanes.{DequeId, Make, Standing, Tends, Deques, deque_of, taken_of, homes_of, homes_at, AreLanesOf, the_make}

-- how often x stands in the lists
abbrev pub times_in : ℕ → List (List ℕ) → ℕ
times_in x [] = 0
times_in x (l ∷ ls) = count_in x l + times_in x ls

-- no piece was given twice, and only pieces were
abbrev pub AreGivenOnce : ℕ → List (List ℕ) → Type 0
AreGivenOnce pieces taken = (x : ℕ) → times_in x taken ≤ count_in x (upto pieces)

-- the lists and what is left hold each piece once, and nothing else
abbrev pub HoldEachOnce : ℕ → List (List ℕ) → List ℕ → Type 0
HoldEachOnce pieces taken left = (x : ℕ) → times_in x taken + count_in x left ≡ count_in x (upto pieces)

-- the make that the first lane is of
abbrev pub first_make : List Standing → Make
first_make [] = the_make [] First 0
first_make (s ∷ lanes) = s.make

-- all lanes of one make, in their order
pub record IsWholeMake (lanes : List Standing) : Type 0 where
  pub some : 0 < length lanes
  pub all : AreLanesOf (first_make lanes) lanes

-- what the pass of the chair at the lane's deque took
abbrev pub chair_taken : ℕ → List Chair → List ℕ
chair_taken lane [] = []
chair_taken zero (c ∷ cs) = (view c.pass).taken
chair_taken (suc lane) (c ∷ cs) = chair_taken lane cs

-- how often x stands in these, over some rows of chairs
abbrev pub times_at : ℕ → ℕ → List (Vec Chair Global) → ℕ
times_at x lane [] = 0
times_at x lane (row ∷ rows) = count_in x (chair_taken lane row.items) + times_at x lane rows

-- the last chair of the row is at this deque
pub record RowEndsAt (home : DequeId × Global) (lane : ℕ) (chairs : List Chair) : Type 0 where
  pub last : length chairs ≡ lane + 1
  pub pass : (c : Chair) → IsPassOf home (slice_index_or chairs lane c).pass
  pub guest : (c : Chair) → (view (slice_index_or chairs lane c).pass).role ≡ Guest

-- the last chair of each row is
abbrev pub AllEndAt : DequeId × Global → ℕ → List (Vec Chair Global) → Type 0
AllEndAt home lane rows =
    (k : ℕ) (row : Vec Chair Global) → k < length rows
    → RowEndsAt home lane (slice_index_or rows k row).items

-- the parts of all lanes: the owners' handles, a row of chairs for each lane, and what each took
pub record AreParts (deal : Deal) (pieces : ℕ) (workers : Deques) (rows : List (Vec Chair Global))
    (taken : List (List ℕ)) : Type 0 where
  pub some : 0 < length workers
  pub rows_too : length rows ≡ length workers
  pub taken_too : length taken ≡ length workers
  pub homes : (k : ℕ) (row : Vec Chair Global) → k < length rows
      → homes_at (slice_index_or rows k row).items ≡ homes_of workers
  pub tend : (k : ℕ) (w : Worker ℕ Global View OnceEach) (row : Vec Chair Global)
      → k < length workers
      → Tends deal pieces k (slice_index_or taken k []) (worker_view (slice_index_or workers k w))
      (slice_index_or rows k row).items

-- each row without its chairs from `lane` on
abbrev pub RowsCut : ℕ → List (Vec Chair Global) → List (Vec Chair Global) → Type 0
RowsCut lane before after = (k : ℕ) (row : Vec Chair Global) → k < length before
    → (slice_index_or after k row).items ≡ take lane (slice_index_or before k row).items

-- the owner and the passes at its deque took pieces that were dealt, none of them twice
abbrev pub TookOnce : View → ℕ → List (Vec Chair Global) → Type 0
TookOnce owner lane rows =
    (x : ℕ) → count_in x owner.taken + times_at x lane rows ≤ count_in x owner.dealt

-- marks of the pieces that stand somewhere in what was counted
abbrev pub AreMarksOf : (ℕ → ℕ) → List Bool → Type 0
AreMarksOf count marks = (x : ℕ) → x < length marks → slice_index_or marks x false ≡ ltb 0 (count x)

-- the pieces of the list are marked beside those that were
abbrev pub MarksMore : List ℕ → List Bool → List Bool → Type 0
MarksMore list before after = (x : ℕ) → x < length before
    → slice_index_or after x false ≡ (slice_index_or before x false || ltb 0 (count_in x list))

-- the pieces without a mark, rising
abbrev pub unmarked_of : List Bool → ℕ → List ℕ
unmarked_of marks pieces = filter (λ x. not (slice_index_or marks x false)) (upto pieces)

-- Over all lanes, of the pieces that were dealt to this lane's deque none was taken twice. No
-- clause cites it: the loop of `settle_all` does
abbrev pub IsLearned : Deal → ℕ → ℕ → List (List ℕ) → ℕ → Type 0
IsLearned deal lanes pieces taken lane =
    (x : ℕ) → times_in x (map (filter (is_of deal lanes lane)) taken)
    ≤ count_in x (dealt_to deal lanes pieces lane)

-- the name of an owner's deque
abbrev pub id_of : Worker ℕ Global View OnceEach → DequeId
id_of w = (worker_deque w).0

-- The parts of the first k lanes. No clause cites it: the loop of `gather` does
pub record Gathers (make : Make) (k : ℕ) (lanes : List Standing) (workers : Deques)
    (rows : List (Vec Chair Global)) (taken : List (List ℕ)) : Type 0 where
  pub count : length workers ≡ k
  pub rows_too : length rows ≡ k
  pub ids : map id_of workers ≡ take k make.deques
  pub deques : (j : ℕ) (row : Vec Chair Global) → j < length rows
      → map deque_of (slice_index_or rows j row).items ≡ make.deques
  pub took : taken ≡ map taken_of (take k lanes)
  pub tend : (j : ℕ) (w : Worker ℕ Global View OnceEach) (row : Vec Chair Global) → j < k
      → Tends make.deal make.pieces j (slice_index_or taken j [])
      (worker_view (slice_index_or workers j w)) (slice_index_or rows j row).items
