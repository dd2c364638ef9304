use Rattle.std.proofs.Common.{◌≡◌, length}
use Rattle.pp_steal.specs.Closing.{IsWholeMake}
use Rattle.pp_rows.proofs.lanes.drain.Given as goal

abbrev pub invariant-rounds : goal.invariant-rounds
invariant-rounds l = IsWholeMake l.lanes.items

abbrev pub invariant-turns : goal.invariant-turns
invariant-turns l = IsWholeMake l.lanes.items × (length l.lanes.items ≡ l.k-end)
