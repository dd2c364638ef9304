use Rattle.std.proofs.Common.{◌≡◌, ℕ, take}
use Rattle.pp_count.specs.Tally.{tally_at, tally_added}
use Rattle.pp_count.specs.Parts.{sums_of}
use Rattle.pp_count.proofs.tallies.add_sums.Given as goal

-- the entries so far are added
abbrev pub invariant-loop-sum : goal.invariant-loop-sum
invariant-loop-sum l = (k : ℕ) → tally_at l.tallies k ≡ tally_added (tally_at l.initial.tallies k) (sums_of k (take l.sum-index l.sums))
