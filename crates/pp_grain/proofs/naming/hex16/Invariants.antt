use Rattle.std.proofs.Common.{◌≡◌, ℕ, ◌<◌, length, get_or}
use Rattle.pp_grain.specs.Naming.{digit_at}
use Rattle.pp_grain.proofs.naming.hex16.Given as goal

-- the digits so far, of sixteen
abbrev pub invariant-loop-k : goal.invariant-loop-k
invariant-loop-k l = (length l.digits ≡ 16) × ((j : ℕ) → j < l.k → get_or l.digits j 0 ≡ digit_at l.n j)
