-- A bound while it is read, which no public clause cites.
use Rattle.pp_units.specs.declared.range.Bound.{Bound}
use Rattle.pp_units.specs.declared.range.BoundIn.{BoundIn as Borrowed}

-- the bound with a unit of its own
abbrev pub whole_bound : Borrowed → Bound
whole_bound bound = record { number = bound.number; unit = bound.unit.now }
