use Rattle.std.proofs.Common.{◌≡◌, ℕ, take}
use Rattle.pp_count.specs.Tally.{tally_entry}
use Rattle.pp_count.specs.Parts.{sums_of}
use Rattle.pp_count.proofs.Entries.{held}
use Rattle.pp_count.proofs.tallies.push_others.Given as goal

-- the entries of the list, of the rows and of the keys so far
abbrev pub invariant-loop-index : goal.invariant-loop-index
invariant-loop-index l = (k : ℕ) → sums_of k l.sums ≡ tally_entry k (held l.tallies.listed.items l.tallies.slots.place.items l.tallies.slots.rows.items (take l.index l.tallies.others.entries) k)
