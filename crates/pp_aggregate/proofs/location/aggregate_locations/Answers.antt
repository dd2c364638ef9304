use Rattle.pp_aggregate.specs.Aggregated.{aggregated_location}
use Rattle.pp_aggregate.proofs.ChangeLemmas.{map_next}
use Rattle.pp_aggregate.proofs.location.aggregate_locations.Goals as goal

-- one more location has what is kept of it
pub loop-location-preserved : goal.loop-location-preserved
loop-location-preserved c =
    map_next (aggregated_location c.args.keep.now) c.args.locations.now c.loop-location.locations c.loop-location.location-index _ c.aggregate_location.new.location
    c.loop-location-test.true c.loop-location.auto.locations c.loop-location.invariant c.aggregate_location.ensures
