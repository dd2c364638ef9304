use Rattle.pp_units.specs.Words.{shown}
use Rattle.pp_calltree.proofs.Summing.{RowsTo}
use Rattle.pp_calltree.proofs.writing.put_rows.Given as goal

-- the lines so far
abbrev pub invariant-loop-n : goal.invariant-loop-n
invariant-loop-n l = RowsTo l.l.profile (shown l.head.unit) l.head.total l.nodes l.initial.out l.n l.sum l.out
