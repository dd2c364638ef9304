use Rattle.std.proofs.Common.{◌≡◌, ℕ, take}
use Rattle.pp_count.specs.Tally.{tally_entry}
use Rattle.pp_count.specs.Parts.{sums_of}
use Rattle.pp_count.proofs.Slotted.{placed_by}
use Rattle.pp_count.proofs.tallies.push_slotted.Given as goal

-- the entries of the list and of the rows so far
abbrev pub invariant-loop-place : goal.invariant-loop-place
invariant-loop-place l = (k : ℕ) → sums_of k l.sums ≡ tally_entry k (placed_by l.tallies.listed.items l.tallies.slots.place.items (take l.place l.tallies.slots.rows.items) k)
