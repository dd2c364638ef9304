-- What a lane at work has done, and outcomes at their places. The clause of `run_pieces` cites
-- `AreOutcomes` alone; the other words are for what it calls.
use Rattle.std.specs.Prelude.{◌≡◌, ℕ, ◌<◌, false, List, [], length, slice_index_or, Option, Some, None}
use Rattle.std.specs.declared.alloc.Global.{Global}
use Rattle.std.specs.declared.vec.Vec.{Vec}
use Rattle.pp_steal.specs.declared.station.Station.{Station}
use Rattle.pp_steal.specs.Lanes.{Standing}

-- the k-th outcome is right for the k-th piece
pub record HasOutcomes {T : Type 0} (right : ℕ → T → Type 0)
    (taken : List ℕ) (outcomes : List T) : Type 0 where
  pub many : length outcomes ≡ length taken
  pub each : (k : ℕ) (d : T) → k < length outcomes
      → right (slice_index_or taken k 0) (slice_index_or outcomes k d)

-- a lane that has taken nothing, with no outcomes yet
pub record IsIdle {T : Type 0} (s : Station T) : Type 0 where
  pub taken : s.lane.taken ≡ []
  pub outcomes : s.outcomes.items ≡ []

-- the lane has done its work, and has the outcome of each piece that it took, or stopped for want
-- of memory
pub record IsServed {T : Type 0} (right : ℕ → T → Type 0) (before after : Station T) : Type 0 where
  pub make : after.lane.make ≡ before.lane.make
  pub own : after.lane.own ≡ before.lane.own
  pub outcomes : after.stopped ≡ false → HasOutcomes right after.lane.taken after.outcomes.items

-- the lane of a station
abbrev pub lane_of_station : {T : Type 0} → Station T → Standing
lane_of_station s = s.lane

-- the outcomes of a station
abbrev pub outcomes_of_station : {T : Type 0} → Station T → Vec T Global
outcomes_of_station s = s.outcomes

-- the slot of the piece has an outcome that is right for it
pub record HasRight {T : Type 0} (right : ℕ → T → Type 0)
    (slots : List (Option T)) (piece : ℕ) : Type 0 where
  pub outcome : T
  pub there : slice_index_or slots piece None ≡ Some outcome
  pub is_right : right piece outcome

-- what had a right outcome still has one
abbrev pub KeepsRight : {T : Type 0} → (ℕ → T → Type 0) → List (Option T) → List (Option T) → Type 0
KeepsRight right before after = (x : ℕ) → HasRight right before x → HasRight right after x

-- each piece of the list has a right outcome in its slot
abbrev pub HaveRight : {T : Type 0} → (ℕ → T → Type 0) → List (Option T) → List ℕ → Type 0
HaveRight right slots list =
    (i : ℕ) → i < length list → HasRight right slots (slice_index_or list i 0)

-- each piece of these lists has a right outcome in its slot
abbrev pub AllHaveRight : {T : Type 0} → (ℕ → T → Type 0) → List (Option T) → List (List ℕ) → Type 0
AllHaveRight right slots taken =
    (k : ℕ) (i : ℕ) → k < length taken → i < length (slice_index_or taken k [])
    → HasRight right slots (slice_index_or (slice_index_or taken k []) i 0)

-- each lane has done its work
abbrev pub AreServed : {T : Type 0} → (ℕ → T → Type 0) → List (Station T) → List (Station T)
    → Type 0
AreServed {T} right before after =
    (k : ℕ) (d : Station T) → k < length before
    → IsServed right (slice_index_or before k d) (slice_index_or after k d)

-- for each lane, there is a right outcome of each piece that it took
pub record AllHaveOutcomes {T : Type 0} (right : ℕ → T → Type 0)
    (taken : List (List ℕ)) (outcomes : List (Vec T Global)) : Type 0 where
  pub many : length outcomes ≡ length taken
  pub each : (k : ℕ) (d : Vec T Global) → k < length taken
      → HasOutcomes right (slice_index_or taken k []) (slice_index_or outcomes k d).items

-- at the place of each piece there is an outcome that is right for it, and there are as many places
-- as pieces
pub record AreOutcomes {T : Type 0} (right : ℕ → T → Type 0)
    (pieces : ℕ) (outcomes : List T) : Type 0 where
  pub many : length outcomes ≡ pieces
  pub each : (piece : ℕ) (d : T) → piece < pieces → right piece (slice_index_or outcomes piece d)
