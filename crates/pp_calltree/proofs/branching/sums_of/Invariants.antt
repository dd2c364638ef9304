use Rattle.pp_calltree.proofs.RunSums.{SumsTo}
use Rattle.pp_calltree.proofs.branching.sums_of.Given as goal

-- the sums so far
abbrev pub invariant-loop-path : goal.invariant-loop-path
invariant-loop-path l = SumsTo l.depth l.run l.path-index l.flat l.cum
