use Rattle.pp_aggregate.specs.Aggregated.{aggregated_line}
use Rattle.pp_aggregate.proofs.ChangeLemmas.{map_next}
use Rattle.pp_aggregate.proofs.location.aggregate_lines.Goals as goal

-- one more line has what is kept of it
pub loop-line-preserved : goal.loop-line-preserved
loop-line-preserved c =
    map_next (aggregated_line c.args.keep.now) c.args.lines.now c.loop-line.lines c.loop-line.line-index _ c.aggregate_line.new.line
    c.loop-line-test.true c.loop-line.auto.lines c.loop-line.invariant c.aggregate_line.ensures
