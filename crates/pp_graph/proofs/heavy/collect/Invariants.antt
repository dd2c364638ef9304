use Rattle.pp_graph.specs.Ranks.{Collected}
use Rattle.pp_graph.proofs.heavy.collect.Given as goal

-- the numbers so far are told apart
abbrev pub invariant-loop-number : goal.invariant-loop-number
invariant-loop-number l = Collected l.p l.sort l.sums l.total l.least.billionths l.number l.rows.items l.light
