use Rattle.std.proofs.Common.{◌≤◌, length, vec_capacity}
use Rattle.pp_steal.proofs.Placing.{AreFinished}
use Rattle.pp_steal.proofs.station.finish.Given as goal

abbrev pub invariant-loop-station : goal.invariant-loop-station
invariant-loop-station g l = record {
  finished : AreFinished l.fn.stations.items l.station-iterator.rest.items l.lanes.items l.all.items;
  room : (length l.fn.stations.items ≤ vec_capacity l.lanes) × (length l.fn.stations.items ≤ vec_capacity l.all);
}
