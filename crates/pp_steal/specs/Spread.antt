-- What is said of a part of a list whose items are gone to on several threads. A part begins at a place
-- of the list, `from`.
use Rattle.std.specs.Prelude.{◌≡◌, ℕ, ◌+◌, ◌^◌, ◌<◌, List, length, slice_index_or}

-- P holds of each item of the part and its place in the list, and the places are numbers of 64 bits
pub record AllFrom {T : Type 0} (P : ℕ → T → Type 0) (from : ℕ) (part : List T) : Type 0 where
  pub room : from + length part < 2 ^ 64
  pub each : (k : ℕ) (other : T) → k < length part → P (from + k) (slice_index_or part k other)

-- R holds of the place of each item in the list, the item before and the item after
pub record ChangesFrom {T : Type 0} (R : ℕ → T → T → Type 0) (from : ℕ) (before after : List T) : Type 0 where
  pub long : length after ≡ length before
  pub each : (k : ℕ) (other : T) → k < length before
      → R (from + k) (slice_index_or before k other) (slice_index_or after k other)
