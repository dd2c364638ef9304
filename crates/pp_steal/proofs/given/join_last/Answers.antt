use Rattle.std.proofs.Common.{ap, arith, ◌<◌, vec_len, ◌∙◌, List, ℕ}
use Rattle.crossbeam_deque.specs.Handles.{worker_view}
use Rattle.pp_steal.specs.Pool.{took}
use Rattle.pp_steal.proofs.Keeps.{merges}
use Rattle.pp_steal.proofs.Closing.{live_at, last_is}
use Rattle.pp_steal.proofs.given.join_last.Goals as goal

pub absorb-requires-clause-table : goal.absorb-requires-clause-table
absorb-requires-clause-table c = let k = c.requires.row.last in let lt : 0 < vec_len c.args.row.now = omega arith in (last_is _ c.args.lane c.args.row.now.items c.in-Some.chair _ c.requires.row (omega arith) (c.in-Some.ensures.value c.in-Some.chair lt)).0

pub absorb-requires-clause-rule : goal.absorb-requires-clause-rule
absorb-requires-clause-rule c = let k = c.requires.row.last in let lt : 0 < vec_len c.args.row.now = omega arith in merges _ _ _ _ (live_at _ c.requires.worker) (last_is _ c.args.lane c.args.row.now.items c.in-Some.chair _ c.requires.row (omega arith) (c.in-Some.ensures.value c.in-Some.chair lt)).1

pub returns-clause-joined : goal.returns-clause-joined
returns-clause-joined c = let k = c.requires.row.last in let lt : 0 < vec_len c.args.row.now = omega arith in
    c.absorb.ensures.rule ∙ ap (λ (l : List ℕ). took (worker_view c.args.worker.now) l) (last_is _ c.args.lane c.args.row.now.items c.in-Some.chair _ c.requires.row (omega arith) (c.in-Some.ensures.value c.in-Some.chair lt)).2
