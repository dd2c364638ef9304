use Rattle.std.proofs.Common.{◌≡◌, length}
use Rattle.pp_steal.specs.Lanes.{AreDealt}
use Rattle.pp_steal.proofs.make.DealTable.deal_out.Given as goal

abbrev pub invariant-loop-piece : goal.invariant-loop-piece
invariant-loop-piece l = record {
  same : (l.self.deal ≡ l.fn.self.deal) × (l.self.pieces ≡ l.fn.self.pieces);
  count : (length l.self.workers.items ≡ l.lanes) × (length l.fn.self.workers.items ≡ l.lanes);
  dealt : AreDealt l.self.deal l.lanes l.self.pieces l.piece l.self.workers.items;
}
