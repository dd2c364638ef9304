-- The core of the pool as a machine, without threads: a deque, the kinds of step that change it,
-- and runs of such steps.
use Rattle.std.specs.Prelude.{◌≡◌, ◌≢◌, ℕ, ◌+◌, ◌<◌, List, [], ◌∷◌, ◌++◌, length, slice_set, slice_index_or}
use mathlib.Core.Option.{some}
use lib.ListN.{get_elem?}
use Rattle.pp_steal.specs.declared.deal.Deal.{Deal}
use Rattle.pp_steal.specs.declared.view.Role.TheVariants.{Owner, Guest}
use Rattle.pp_steal.specs.declared.view.View.{View}
use Rattle.pp_steal.specs.Pool.{a_view, count_in, times_taken, AllUnder, TakesPart, Sound, took, with_dealt, mark, newcomer, joined_view, spent}
use Rattle.pp_steal.specs.Dealing.{dealt_to, upto}

-- a deque: what it holds, and what each pass knows. The owner's pass is the first one
pub record Deque : Type 0 where
  pub items : List ℕ
  pub views : List View

-- the deque with these fields
abbrev pub a_deque : List ℕ → List View → Deque
a_deque items views = record { items = items; views = views }

-- a deque at the start, to which nothing was dealt
abbrev pub empty_deque : Deque
empty_deque = a_deque [] (a_view Owner [] [] ∷ [])

-- from which end the owner pops
pub data End : Type 0 where
  Front : End
  Back : End

-- The seven kinds of step. Passes go by their numbers
pub data PoolStep : Type 0 where
  Push : (piece : ℕ) → PoolStep
  Pop : (end : End) → PoolStep
  PopNothing : PoolStep
  Steal : (thief : ℕ) → PoolStep
  StealNothing : (thief : ℕ) → PoolStep
  SplitOff : (splitter : ℕ) → PoolStep
  JoinIn : (pass other : ℕ) → PoolStep

-- the view of a pass
abbrev pub IsAt : Deque → ℕ → View → Type 0
IsAt d pass v = get_elem? d.views pass ≡ some v

-- the deque with another view of this pass
abbrev pub with_view : Deque → List ℕ → ℕ → View → Deque
with_view d items pass v = a_deque items (slice_set d.views pass v)

-- the piece stands at this end of the items, and these are the others
abbrev pub LeavesAt : End → ℕ → List ℕ → List ℕ → Type 0
LeavesAt Front x items rest = items ≡ x ∷ rest
LeavesAt Back x items rest = items ≡ rest ++ x ∷ []

-- the owner, whose view isn't marked, deals a piece above all that were dealt
pub record Pushes (piece : ℕ) (d e : Deque) : Type 0 where
  pub owner : View
  pub at : IsAt d 0 owner
  pub unmarked : owner.role ≡ Owner
  pub above : AllUnder piece owner.dealt
  pub next : e ≡ with_view d (d.items ++ piece ∷ []) 0 (with_dealt owner (piece ∷ []))

-- the owner takes the piece at this end
pub record Pops (end : End) (d e : Deque) : Type 0 where
  pub owner : View
  pub piece : ℕ
  pub rest : List ℕ
  pub at : IsAt d 0 owner
  pub live : TakesPart owner.role
  pub leaves : LeavesAt end piece d.items rest
  pub next : e ≡ with_view d rest 0 (took owner (piece ∷ []))

-- the owner finds no piece: the deque is empty
pub record FindsNone (d e : Deque) : Type 0 where
  pub empty : d.items ≡ []
  pub next : e ≡ d

-- a thief takes the first piece
pub record Steals (thief : ℕ) (d e : Deque) : Type 0 where
  pub guest : View
  pub piece : ℕ
  pub rest : List ℕ
  pub at : IsAt d thief guest
  pub role : guest.role ≡ Guest
  pub first : d.items ≡ piece ∷ rest
  pub next : e ≡ with_view d rest thief (took guest (piece ∷ []))

-- a new view comes to be, which has taken nothing and knows what was dealt
pub record Splits (splitter : ℕ) (d e : Deque) : Type 0 where
  pub view : View
  pub at : IsAt d splitter view
  pub live : TakesPart view.role
  pub next : e ≡ a_deque d.items (slice_set d.views splitter (mark view) ++ newcomer view ∷ [])

-- one pass takes over what another took, whose view is then spent. The other one is not the owner's
pub record Joins (pass other : ℕ) (d e : Deque) : Type 0 where
  pub view : View
  pub guest : View
  pub at : IsAt d pass view
  pub other_at : IsAt d other guest
  pub two : other ≢ pass
  pub live : TakesPart view.role
  pub role : guest.role ≡ Guest
  pub next : e
      ≡ a_deque d.items (slice_set (slice_set d.views pass (joined_view view guest)) other spent)

-- the step may come at the first deque, and leaves the second
abbrev pub Steps : PoolStep → Deque → Deque → Type 0
Steps (Push piece) d e = Pushes piece d e
Steps (Pop end) d e = Pops end d e
Steps PopNothing d e = FindsNone d e
Steps (Steal thief) d e = Steals thief d e
Steps (StealNothing thief) d e = e ≡ d
Steps (SplitOff splitter) d e = Splits splitter d e
Steps (JoinIn pass other) d e = Joins pass other d e

-- the steps lead from the first deque to the second
abbrev pub Runs : List PoolStep → Deque → Deque → Type 0
Runs [] d e = e ≡ d
Runs (s ∷ steps) d e = (m : Deque) × Steps s d m × Runs steps m e

-- a deque of the pool: it comes from an empty one by some steps, and its owner was dealt these
-- pieces
pub record IsOfPool (dealt : List ℕ) (d : Deque) : Type 0 where
  pub steps : List PoolStep
  pub run : Runs steps empty_deque d
  pub owner : View
  pub at : IsAt d 0 owner
  pub has : owner.dealt ≡ dealt

-- how often x stands in a pool, in items and taken lists together
abbrev pub pool_times : ℕ → List Deque → ℕ
pool_times x [] = 0
pool_times x (d ∷ ds) = count_in x d.items + times_taken x d.views + pool_times x ds

-- how often x stands in the taken lists of a pool
abbrev pub pool_taken : ℕ → List Deque → ℕ
pool_taken x [] = 0
pool_taken x (d ∷ ds) = times_taken x d.views + pool_taken x ds

-- the deques of a pool, to which all pieces were dealt
pub record ArePool (deal : Deal) (lanes pieces : ℕ) (ds : List Deque) : Type 0 where
  pub many : length ds ≡ lanes
  pub each : (lane : ℕ) (d : Deque) → lane < lanes
      → IsOfPool (dealt_to deal lanes pieces lane) (slice_index_or ds lane d)

-- no deque holds a piece
abbrev pub AllEmpty : List Deque → Type 0
AllEmpty ds = (lane : ℕ) (d : Deque) → lane < length ds → (slice_index_or ds lane d).items ≡ []

-- whatever steps came, the deque is sound
abbrev pub EachStateIsSound : Type 0
EachStateIsSound =
    (steps : List PoolStep) (d : Deque) → Runs steps empty_deque d → Sound d.items d.views

-- after dealing, items and taken lists of the pool hold each piece once
abbrev pub EachPieceOnce : Type 0
EachPieceOnce =
    (deal : Deal) (lanes pieces : ℕ) (ds : List Deque) → 0 < lanes → ArePool deal lanes pieces ds
    → (x : ℕ) → pool_times x ds ≡ count_in x (upto pieces)

-- where all deques are empty, the taken lists alone do
abbrev pub EachTakenOnce : Type 0
EachTakenOnce =
    (deal : Deal) (lanes pieces : ℕ) (ds : List Deque) → 0 < lanes → ArePool deal lanes pieces ds
    → AllEmpty ds
    → (x : ℕ) → pool_taken x ds ≡ count_in x (upto pieces)
