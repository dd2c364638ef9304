use Rattle.std.proofs.Common.{take, drop}
use Rattle.pp_count.specs.Tally.{tally_at}
use Rattle.pp_count.specs.Scope.{samples_in_scope, CountedTo, HasTotals}
use Rattle.pp_count.proofs.part.add_samples.Given as goal

-- the samples so far are added up
abbrev pub invariant-loop-index : goal.invariant-loop-index
invariant-loop-index l =
    CountedTo l.scope l.fn.first l.index (take l.index (drop l.fn.first (samples_in_scope l.scope))) (tally_at l.tallies) l.kept
    × HasTotals l.scope (take l.index (drop l.fn.first (samples_in_scope l.scope))) l.totals
