use Rattle.std.proofs.Common.{ap, arith, ◌<◌, length, length-set, ◌∙◌}
use Rattle.crossbeam_deque.specs.Handles.{worker_view}
use Rattle.pp_steal.specs.declared.view.View.{View}
use Rattle.pp_steal.proofs.Closing.{done_more, left_less, sum_more}
use Rattle.pp_steal.proofs.given.settle.Goals as goal

pub loop-k-preserved : goal.loop-k-preserved
loop-k-preserved c = let v = c.index_mut.ensures.value in let j = c.join_last.ensures in let i = c.loop-k.invariant in
    let rows = c.loop-k.rows.items in
    let first = c.args.rows.now.items in
    let lt : c.loop-k.k < length c.loop-k.rows.items = omega arith in
    record {
      count = length-set rows c.loop-k.k c.join_last.new.row ∙ i.count;
      done = done_more c.args.lane c.loop-k.k rows first c.index_mut.result.now c.join_last.new.row lt v j.row i.left i.done;
      left = left_less c.loop-k.k rows first c.join_last.new.row i.left;
      same = (j.deque ∙ i.same.0, ap (λ (w : View). w.role) j.joined ∙ i.same.1, ap (λ (w : View). w.dealt) j.joined ∙ i.same.2);
      sum = λ x. sum_more x c.args.lane c.loop-k.k rows first c.index_mut.result.now (worker_view c.args.worker) (worker_view c.loop-k.worker) (worker_view c.join_last.new.worker) lt i.count v i.left j.joined (i.sum x);
    }
