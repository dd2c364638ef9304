use Rattle.std.proofs.Common.{◌≡◌, ◌++◌, map, take, drop}
use Rattle.pp_aggregate.specs.Aggregated.{aggregated_line}
use Rattle.pp_aggregate.proofs.location.aggregate_lines.Given as goal

abbrev pub invariant-loop-line : goal.invariant-loop-line
invariant-loop-line l =
    l.lines ≡ map (aggregated_line l.keep) (take l.line-index l.fn.lines) ++ drop l.line-index l.fn.lines
