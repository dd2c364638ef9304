use Rattle.pp_count.proofs.Numbering.{rows_more}
use Rattle.pp_count.proofs.table.number_locations.Goals as goal

-- one more location
pub loop-place-preserved : goal.loop-place-preserved
loop-place-preserved c =
    rw c.in_ok-push.ensures
    (rows_more c.args.grouping.grain c.args.grouping.showcolumns c.args.l.now.profile c.args.names.now c.loop-place.names c.number_location.new.names c.loop-place.location c.loop-place.place c.as_slice.result.now c.loop-place.invariant
    c.in_ok-number_location.ensures.grown (rw c.as_slice.ensures c.in_ok-number_location.ensures.row))
