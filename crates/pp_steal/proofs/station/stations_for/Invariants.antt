use Rattle.std.proofs.Common.{◌≤◌, length, vec_capacity}
use Rattle.pp_steal.proofs.Placing.{AreStations}
use Rattle.pp_steal.proofs.station.stations_for.Given as goal

abbrev pub invariant-loop-lane : goal.invariant-loop-lane
invariant-loop-lane g l = record {
  stations : AreStations l.fn.lanes l.lane-iterator.rest.items l.all.items;
  room : length l.fn.lanes ≤ vec_capacity l.all;
}
