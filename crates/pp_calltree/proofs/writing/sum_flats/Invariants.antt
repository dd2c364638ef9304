use Rattle.pp_calltree.proofs.Summing.{SumTo}
use Rattle.pp_calltree.proofs.writing.sum_flats.Given as goal

-- the sum so far
abbrev pub invariant-loop-n : goal.invariant-loop-n
invariant-loop-n l = SumTo l.nodes l.n l.sum
