use Rattle.std.proofs.Common.{◌≡◌, ◌<◌, length, ◌≤◌, vec_capacity}
use Rattle.pp_steal.specs.Lanes.{AreOwnersReady, AreMarked, AreNewRows, homes_of}
use Rattle.pp_steal.proofs.make.DealTable.rows.Given as goal

abbrev pub invariant-loop-lane : goal.invariant-loop-lane
invariant-loop-lane l = record {
  same : (l.self.deal ≡ l.fn.self.deal) × (l.self.pieces ≡ l.fn.self.pieces);
  count : (length l.self.workers.items ≡ l.lanes) × (0 < l.lanes);
  ready : AreOwnersReady l.self.deal (length l.self.workers.items) l.self.pieces l.self.workers.items;
  marked : 0 < length l.rows.items → AreMarked (length l.self.workers.items) l.self.workers.items;
  homes : homes_of l.self.workers.items ≡ homes_of l.fn.self.workers.items;
  rows : (length l.rows.items ≡ l._lane) × (l.lanes ≤ vec_capacity l.rows);
  new : AreNewRows l.fn.self.deal l.lanes l.fn.self.pieces (homes_of l.fn.self.workers.items) l.rows.items;
}
