use Rattle.std.proofs.Common.{◌≡◌, ◌≤◌, ◌+◌, length, drop, vec_capacity}
use Rattle.pp_steal.specs.Closing.{Gathers, first_make}
use Rattle.pp_steal.proofs.given.gather.Given as goal

abbrev pub invariant-loop-lane : goal.invariant-loop-lane
invariant-loop-lane l = record {
  lanes : l.lane-iterator.rest.items ≡ drop (length l.workers.items) l.fn.lanes.items;
  many : length l.workers.items + length l.lane-iterator.rest.items ≡ length l.fn.lanes.items;
  gathers : Gathers (first_make l.fn.lanes.items) (length l.workers.items) l.fn.lanes.items l.workers.items l.rows.items l.taken.items;
  parts : (l.deal ≡ (first_make l.fn.lanes.items).deal) × (l.pieces ≡ (first_make l.fn.lanes.items).pieces);
  room : (length l.fn.lanes.items ≤ vec_capacity l.workers) × (length l.fn.lanes.items ≤ vec_capacity l.rows) × (length l.fn.lanes.items ≤ vec_capacity l.taken);
}
