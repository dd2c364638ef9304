use Rattle.pp_count.proofs.Numbering.{RowsTo}
use Rattle.pp_count.proofs.table.number_locations.Given as goal

-- the locations so far have their rows
abbrev pub invariant-loop-place : goal.invariant-loop-place
invariant-loop-place l = RowsTo l.grouping.grain l.grouping.showcolumns l.l.profile l.initial.names l.names l.location l.place
