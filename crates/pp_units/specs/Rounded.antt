-- Rounding to whole numbers, halves away from zero.
use Rattle.std.specs.Prelude.{ℕ, suc, ◌+◌, ◌*◌, ◌/◌, ◌<◌, ◌≤◌, ℤ, pos, negsuc, neg_ℤ}

-- r is the whole number nearest to a / b, and the greater of two that are as near
pub record IsNearest (a b r : ℕ) : Type 0 where
  pub not_above : 2 * (r * b) ≤ 2 * a + b
  pub not_below : 2 * a + b < 2 * (r * b) + 2 * b

-- the whole number that is nearest to a / b
abbrev pub nearest : ℕ → ℕ → ℕ
nearest a b = (2 * a + b) / (2 * b)

-- value * times / over as a whole number, rounded half away from zero
abbrev pub rounded : ℤ → ℕ → ℕ → ℤ
rounded (pos n) times over = pos (nearest (n * times) over)
rounded (negsuc n) times over = neg_ℤ (pos (nearest (suc n * times) over))
