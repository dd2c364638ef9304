use Rattle.pp_count.proofs.Sights.{NumberedTo}
use Rattle.pp_count.proofs.seeing.number_stack.Given as goal

-- the frames so far that count have their numbers
abbrev pub invariant-loop-place : goal.invariant-loop-place
invariant-loop-place l = NumberedTo l.scope.l.now.profile l.scope.grouping l.scope.table.now l.stack l.place l.keys.items
