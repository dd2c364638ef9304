-- Sums and counts that stay at the largest number of 64 bits.
use Rattle.std.specs.Prelude.{ℕ, ◌-◌, ◌^◌, min}

-- the number, or 2^64-1 where it is greater
abbrev pub capped : ℕ → ℕ
capped n = min n (2 ^ 64 - 1)
