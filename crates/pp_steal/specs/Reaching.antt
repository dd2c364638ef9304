-- What a reach for a piece tells.
use Rattle.std.specs.Prelude.{◌≡◌, ◌≢◌, ℕ, ◌+◌, ◌<◌, ◌≤◌, ◌⊎◌, List, [], ◌∷◌, ◌++◌, Option, Some, None}
pub use Rattle.pp_base.specs.Fault.{Rose}
use Rattle.pp_steal.specs.Pool.{count_in}

-- the piece was not in the list, and is appended to it
pub record Gave (before after : List ℕ) (piece : ℕ) : Type 0 where
  pub new : count_in piece before ≡ 0
  pub appended : after ≡ before ++ piece ∷ []

-- one call on a deque: a piece comes, or else the deque's count rose and nothing was taken
abbrev pub GaveOrRose : List ℕ → List ℕ → ℕ → ℕ → Option ℕ → Type 0
GaveOrRose before after count count' (Some piece) = Gave before after piece × (count' ≡ count)
GaveOrRose before after count count' None = (after ≡ before) × (count ≤ count') × Rose count count'

-- no count fell
abbrev pub NoneFell : ℕ → (ℕ → ℕ) → ℕ → (ℕ → ℕ) → Type 0
NoneFell empties misses empties' misses' =
    (empties ≤ empties') × ((lane : ℕ) → misses lane ≤ misses' lane)

-- the count of the own deque rose, and that of each other lane
pub record AllRose (lanes own empties : ℕ) (misses : ℕ → ℕ)
    (empties' : ℕ) (misses' : ℕ → ℕ) : Type 0 where
  pub own_rose : Rose empties empties'
  pub others_rose : (lane : ℕ) → lane < lanes → lane ≢ own → Rose (misses lane) (misses' lane)

-- The lane comes before the step, from the right neighbour of `own` round: its right neighbour
-- comes at step 1, and after the last lane comes lane 0
abbrev pub InTurn : ℕ → ℕ → ℕ → ℕ → Type 0
InTurn lanes own step lane =
    ((own < lane) × (lane < own + step) × (lane < lanes))
    ⊎ ((lane < own) × (lane + lanes < own + step))

-- The lane has no turn before the step: it is `own`, or its turn is at the step or later
abbrev pub OutOfTurn : ℕ → ℕ → ℕ → ℕ → Type 0
OutOfTurn lanes own step lane =
    (own + step ≤ lane) ⊎ (lane ≡ own) ⊎ ((lane < own) × (own + step ≤ lane + lanes))

-- the counts of the lanes that come before the step rose, and those of the other lanes did not
pub record RoseInTurn (lanes own step : ℕ) (misses misses' : ℕ → ℕ) : Type 0 where
  pub tried : (lane : ℕ) → InTurn lanes own step lane → Rose (misses lane) (misses' lane)
  pub others : (lane : ℕ) → lane < lanes → OutOfTurn lanes own step lane
      → misses' lane ≡ misses lane

-- a piece came of the lane at this step
pub record CameAt (lanes own empties : ℕ) (misses : ℕ → ℕ)
    (empties' : ℕ) (misses' : ℕ → ℕ) : Type 0 where
  pub step : ℕ
  pub first : 1 ≤ step
  pub last : step < lanes
  pub own_rose : Rose empties empties'
  pub round : RoseInTurn lanes own step misses misses'

-- A piece came. If it came of the own deque, no count rose. Else it came of the lane at a step from 1 on. Then the
-- counts of the own deque and of the lanes before that step rose.
abbrev pub CameInTurn : ℕ → ℕ → ℕ → (ℕ → ℕ) → ℕ → (ℕ → ℕ) → Type 0
CameInTurn lanes own empties misses empties' misses' =
    ((empties' ≡ empties) × ((lane : ℕ) → misses' lane ≡ misses lane))
    ⊎ CameAt lanes own empties misses empties' misses'
