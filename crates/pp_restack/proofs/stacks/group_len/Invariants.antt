use Rattle.pp_restack.proofs.Grouping.{AreAlike}
use Rattle.pp_restack.proofs.stacks.group_len.Given as goal

-- the frames so far are of one place
abbrev pub invariant-loop-count : goal.invariant-loop-count
invariant-loop-count l = AreAlike l.stack l.count
