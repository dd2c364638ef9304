-- The room that the first lane has for `close`. No clause of a public call cites it.
use Rattle.std.specs.Prelude.{◌≡◌, ◌≢◌, ℕ, ◌≤◌, false, [], replicate, Option, MatchOption, vec_capacity}
use Rattle.pp_steal.specs.declared.room.LaneRoom.{LaneRoom}

-- empty vectors with room for what these lanes have, and no piece is marked
pub record HasLaneRoom (lanes pieces : ℕ) (r : LaneRoom) : Type 0 where
  pub workers : (r.workers.items ≡ []) × (lanes ≤ vec_capacity r.workers)
  pub rows : (r.rows.items ≡ []) × (lanes ≤ vec_capacity r.rows)
  pub taken : (r.taken.items ≡ []) × (lanes ≤ vec_capacity r.taken)
  pub left : (r.left.items ≡ []) × (pieces ≤ vec_capacity r.left)
  pub marks : r.marks.items ≡ replicate pieces false

-- the first lane has room, and no other one
abbrev pub RoomFor : ℕ → ℕ → ℕ → Option LaneRoom → Type 0
RoomFor own lanes pieces room = MatchOption room (own ≢ 0) (HasLaneRoom lanes pieces)
