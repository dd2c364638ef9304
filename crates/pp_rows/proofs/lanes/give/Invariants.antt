use Rattle.pp_steal.specs.Closing.{IsWholeMake}
use Rattle.pp_rows.proofs.lanes.give.Given as goal

abbrev pub invariant-turns : goal.invariant-turns
invariant-turns l = IsWholeMake l.lanes.items
