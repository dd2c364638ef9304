use Rattle.std.proofs.Common.{◌≡◌, ℕ, take, get_or}
use Rattle.pp_count.specs.Tally.{no_tally, tally_entry}
use Rattle.pp_count.specs.Parts.{sums_of}
use Rattle.pp_count.proofs.tallies.push_listed.Given as goal

-- the entries of the key numbers so far
abbrev pub invariant-loop-number : goal.invariant-loop-number
invariant-loop-number l = (k : ℕ) → sums_of k l.sums ≡ tally_entry k (get_or (take l.number l.listed) k no_tally)
