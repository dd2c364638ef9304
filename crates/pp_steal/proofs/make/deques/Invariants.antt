use Rattle.std.proofs.Common.{◌≡◌, ◌≤◌, length, vec_capacity}
use Rattle.pp_steal.specs.declared.deal.Deal.{Deal}
use Rattle.pp_steal.specs.Lanes.{AreDealt}
use Rattle.pp_steal.proofs.make.deques.Given as goal

abbrev pub invariant-loop-lane : goal.invariant-loop-lane
invariant-loop-lane l = record {
  count : length l.workers.items ≡ l._lane;
  room : l.lanes ≤ vec_capacity l.workers;
  unused : (deal : Deal) → AreDealt deal l.lanes l.pieces 0 l.workers.items;
}
