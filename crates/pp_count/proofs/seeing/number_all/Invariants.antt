use Rattle.pp_count.proofs.Located.{LocatedTo}
use Rattle.pp_count.proofs.seeing.number_all.Given as goal

-- the locations so far have their numbers
abbrev pub invariant-loop-id : goal.invariant-loop-id
invariant-loop-id l = LocatedTo l.scope.l.now.profile l.scope.grouping l.scope.table.now l.id-items l.id-index l.keys.items
