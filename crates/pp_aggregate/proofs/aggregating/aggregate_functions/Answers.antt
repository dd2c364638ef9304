use Rattle.pp_aggregate.specs.Aggregated.{aggregated_function}
use Rattle.pp_aggregate.proofs.ChangeLemmas.{map_next}
use Rattle.pp_aggregate.proofs.aggregating.aggregate_functions.Goals as goal

-- one more function has what is kept of it
pub loop-f-preserved : goal.loop-f-preserved
loop-f-preserved c =
    map_next (aggregated_function c.args.keep.now) c.args.functions.now c.loop-f.functions c.loop-f.f-index _ c.aggregate_function.new.f
    c.loop-f-test.true c.loop-f.auto.functions c.loop-f.invariant c.aggregate_function.ensures
