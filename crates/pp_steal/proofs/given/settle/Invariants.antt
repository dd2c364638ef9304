use Rattle.std.proofs.Common.{◌≡◌, ◌+◌, ◌<◌, ◌≤◌, ℕ, length, take, get_or}
use Rattle.std.specs.declared.alloc.Global.{Global}
use Rattle.std.specs.declared.vec.Vec.{Vec}
use Rattle.crossbeam_deque.specs.Handles.{worker_deque, worker_view}
use Rattle.pp_steal.specs.declared.chair.Chair.{Chair}
use Rattle.pp_steal.specs.declared.view.Role.TheVariants.{Marked}
use Rattle.pp_steal.specs.Pool.{count_in}
use Rattle.pp_steal.specs.Closing.{times_at}
use Rattle.pp_steal.proofs.given.settle.Given as goal

abbrev pub invariant-loop-k : goal.invariant-loop-k
invariant-loop-k l = record {
  count : length l.rows.items ≡ length l.fn.rows.items;
  done : (k : ℕ) (row : Vec Chair Global) → k < l.k → (get_or l.rows.items k row).items ≡ take l.lane (get_or l.fn.rows.items k row).items;
  left : (k : ℕ) (row : Vec Chair Global) → l.k ≤ k → (get_or l.rows.items k row).items ≡ (get_or l.fn.rows.items k row).items;
  same : (worker_deque l.worker ≡ worker_deque l.fn.worker) × ((worker_view l.worker).role ≡ Marked) × ((worker_view l.worker).dealt ≡ (worker_view l.fn.worker).dealt);
  sum : (x : ℕ) → count_in x (worker_view l.worker).taken ≡ count_in x (worker_view l.fn.worker).taken + times_at x l.lane (take l.k l.fn.rows.items);
}
