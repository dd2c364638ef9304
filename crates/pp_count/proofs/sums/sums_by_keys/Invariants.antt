use Rattle.std.proofs.Common.{◌≡◌, map, take}
use Rattle.pp_count.specs.Parts.{key_at_sum}
use Rattle.pp_count.proofs.sums.sums_by_keys.Given as goal

-- the keys and sums of the entries so far
abbrev pub invariant-loop-sum : goal.invariant-loop-sum
invariant-loop-sum l =
    (l.all.sums.names ≡ map (key_at_sum l.names) (take l.sum-index l.sums))
    × (l.all.sums.flat ≡ map (λ e. e.flat) (take l.sum-index l.sums))
    × (l.all.sums.cum ≡ map (λ e. e.cum) (take l.sum-index l.sums))
    × (l.all.numbers ≡ map (λ e. e.key) (take l.sum-index l.sums))
