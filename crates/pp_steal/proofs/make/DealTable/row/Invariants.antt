use Rattle.std.proofs.Common.{◌≡◌, length, take, ◌≤◌, vec_capacity}
use Rattle.pp_steal.specs.Lanes.{AreOwnersReady, AreMarked, AreFresh, homes_of, homes_at}
use Rattle.pp_steal.proofs.make.DealTable.row.Given as goal

abbrev pub invariant-loop-lane : goal.invariant-loop-lane
invariant-loop-lane l = record {
  same : (l.self.deal ≡ l.fn.self.deal) × (l.self.pieces ≡ l.fn.self.pieces);
  count : (length l.self.workers.items ≡ l.lanes) × (length l.fn.self.workers.items ≡ l.lanes);
  ready : AreOwnersReady l.fn.self.deal l.lanes l.fn.self.pieces l.self.workers.items;
  marked : AreMarked l.lane l.self.workers.items;
  homes : homes_of l.self.workers.items ≡ homes_of l.fn.self.workers.items;
  chairs : (length l.chairs.items ≡ l.lane) × (l.lanes ≤ vec_capacity l.chairs);
  at : homes_at l.chairs.items ≡ take l.lane (homes_of l.self.workers.items);
  fresh : AreFresh l.fn.self.deal l.lanes l.fn.self.pieces l.chairs.items;
}
