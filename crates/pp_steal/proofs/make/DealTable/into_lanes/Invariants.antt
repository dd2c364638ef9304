use Rattle.std.proofs.Common.{◌≡◌, ◌+◌, length, ◌≤◌, drop, vec_capacity}
use Rattle.pp_steal.specs.Lanes.{AreNewRows, AreNewLanes, make_of, homes_of}
use Rattle.pp_steal.proofs.make.DealTable.into_lanes.Given as goal

abbrev pub invariant-loop-worker : goal.invariant-loop-worker
invariant-loop-worker l = record {
  same : (l.deal ≡ l.fn.self.deal) × (l.pieces ≡ l.fn.self.pieces) × (length l.fn.self.workers.items ≡ l.count);
  count : length l.lanes.items + length l.worker-iterator.rest.items ≡ l.count;
  workers : l.worker-iterator.rest.items ≡ drop (length l.lanes.items) l.fn.self.workers.items;
  many : length l.rows.items ≡ length l.worker-iterator.rest.items;
  rows : AreNewRows l.deal l.count l.pieces (homes_of l.fn.self.workers.items) l.rows.items;
  room : l.count ≤ vec_capacity l.lanes;
  new : AreNewLanes (make_of (homes_of l.fn.self.workers.items) l.deal l.pieces) l.lanes.items;
}
