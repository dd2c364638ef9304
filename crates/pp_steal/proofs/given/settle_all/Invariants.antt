use Rattle.std.proofs.Common.{◌≡◌, ◌<◌, ◌≤◌, ℕ, length, take, get_or, vec_len}
use Rattle.std.specs.declared.alloc.Global.{Global}
use Rattle.std.specs.declared.vec.Vec.{Vec}
use Rattle.pp_steal.specs.declared.chair.Chair.{Chair}
use Rattle.pp_steal.specs.Closing.{IsLearned}
use Rattle.pp_steal.proofs.given.settle_all.Given as goal

abbrev pub invariant-loop-worker : goal.invariant-loop-worker
invariant-loop-worker l = record {
  workers : (l.workers.items ≡ take (length l.workers.items) l.fn.whole.workers.items) × (length l.workers.items ≤ length l.fn.whole.workers.items);
  count : length l.rows.items ≡ length l.fn.whole.rows.items;
  rows : (k : ℕ) (row : Vec Chair Global) → k < length l.rows.items → (get_or l.rows.items k row).items ≡ take (length l.workers.items) (get_or l.fn.whole.rows.items k row).items;
  learned : (lane : ℕ) → length l.workers.items ≤ lane → lane < length l.fn.whole.workers.items → IsLearned l.fn.whole.deal (length l.fn.whole.workers.items) l.fn.whole.pieces l.fn.whole.taken.items lane;
}

abbrev pub decreases-loop-worker : goal.decreases-loop-worker
decreases-loop-worker l = vec_len l.workers
