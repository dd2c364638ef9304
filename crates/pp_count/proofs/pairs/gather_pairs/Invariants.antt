use Rattle.std.proofs.Common.{◌≡◌, ◌++◌, ◌<◌, length, drop}
use Rattle.std.specs.List.{filter, filter_map}
use Rattle.std.specs.Option.{ForSome}
use Rattle.pp_count.specs.Edges.{pairs_of, pairs_over, pair_place, has_mark}
use Rattle.pp_count.proofs.pairs.gather_pairs.Given as goal

-- the pairs so far, and those of the keys that are left
abbrev pub invariant-loop-key : goal.invariant-loop-key
invariant-loop-key l =
    (pairs_of l.over l.keys ≡ l.pairs.items ++ filter (has_mark l.over.marked) (pairs_over (length l.over.marked) l.under (filter_map (pair_place l.over) (drop l.key-index l.keys))))
    × ForSome l.under (λ b. b < length l.over.marked)
