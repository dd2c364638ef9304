use Rattle.pp_stack.proofs.TableLemmas.{TabledTo}
use Rattle.pp_stack.proofs.table.VerdictTable.new.Given as goal

-- the frames of the locations so far have their verdicts
abbrev pub invariant-loop-location : goal.invariant-loop-location
invariant-loop-location l = TabledTo l.l.profile l.texts l.location l.first l.found l.some
