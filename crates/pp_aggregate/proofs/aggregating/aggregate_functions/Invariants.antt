use Rattle.std.proofs.Common.{◌≡◌, ◌++◌, map, take, drop}
use Rattle.pp_aggregate.specs.Aggregated.{aggregated_function}
use Rattle.pp_aggregate.proofs.aggregating.aggregate_functions.Given as goal

abbrev pub invariant-loop-f : goal.invariant-loop-f
invariant-loop-f l =
    l.functions ≡ map (aggregated_function l.keep) (take l.f-index l.fn.functions) ++ drop l.f-index l.fn.functions
