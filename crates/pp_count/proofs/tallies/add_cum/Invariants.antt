use Rattle.std.proofs.Common.{◌≡◌, ℕ, take}
use Rattle.pp_count.specs.Tally.{tally_at, with_cum}
use Rattle.pp_count.proofs.tallies.add_cum.Given as goal

-- each tally has the value if its key stands among those so far
abbrev pub invariant-loop-key : goal.invariant-loop-key
invariant-loop-key l = (k : ℕ) → tally_at l.tallies k ≡ with_cum l.value l.turn (take l.key-index l.keys) k (tally_at l.initial.tallies k)
