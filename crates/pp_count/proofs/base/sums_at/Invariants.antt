use Rattle.std.proofs.Common.{◌≡◌, map, take}
use Rattle.pp_count.specs.Tally.{tally_at}
use Rattle.pp_count.proofs.base.sums_at.Given as goal

-- the sums of the first numbers
abbrev pub invariant-loop-number : goal.invariant-loop-number
invariant-loop-number l =
    (l.flat ≡ map (λ n. (tally_at l.fn.tallies n).flat) (take l.number-index l.numbers))
    × (l.cum ≡ map (λ n. (tally_at l.fn.tallies n).cum) (take l.number-index l.numbers))
