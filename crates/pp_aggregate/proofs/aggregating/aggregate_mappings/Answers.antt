use Rattle.pp_aggregate.specs.Aggregated.{aggregated_mapping}
use Rattle.pp_aggregate.proofs.ChangeLemmas.{map_next}
use Rattle.pp_aggregate.proofs.aggregating.aggregate_mappings.Goals as goal

-- one more mapping has what is kept of it
pub loop-m-preserved : goal.loop-m-preserved
loop-m-preserved c =
    map_next (aggregated_mapping c.args.keep.now) c.args.mappings.now c.loop-m.mappings c.loop-m.m-index _ c.aggregate_mapping.new.m
    c.loop-m-test.true c.loop-m.auto.mappings c.loop-m.invariant c.aggregate_mapping.ensures
