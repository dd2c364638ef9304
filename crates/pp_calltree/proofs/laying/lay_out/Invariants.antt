use Rattle.std.specs.List.{sum_by}
use Rattle.pp_calltree.specs.Branches.{weight}
use Rattle.pp_calltree.specs.Paths.{below}
use Rattle.pp_calltree.proofs.LaidOut.{Laying}
use Rattle.pp_calltree.proofs.laying.lay_out.Given as goal

-- the nodes so far, and the branches that wait
abbrev pub invariant-loop-branch : goal.invariant-loop-branch
invariant-loop-branch l = Laying l.p l.names (below 0 l.fn.paths) l.nodes.items l.waiting.items

abbrev pub decreases-loop-branch : goal.decreases-loop-branch
decreases-loop-branch l = sum_by weight l.waiting.items
