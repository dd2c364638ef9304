use Rattle.std.proofs.Common.{◌≡◌, ◌++◌, map, take, drop}
use Rattle.pp_aggregate.specs.Aggregated.{aggregated_mapping}
use Rattle.pp_aggregate.proofs.aggregating.aggregate_mappings.Given as goal

abbrev pub invariant-loop-m : goal.invariant-loop-m
invariant-loop-m l =
    l.mappings ≡ map (aggregated_mapping l.keep) (take l.m-index l.fn.mappings) ++ drop l.m-index l.fn.mappings
