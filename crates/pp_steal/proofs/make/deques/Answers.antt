use Rattle.std.proofs.Common.{arith, ap, ◌∙◌, length, length-append, [], ◌∷◌}
use Rattle.pp_steal.specs.Lanes.{IsDealt}
use Rattle.pp_steal.proofs.Each.{each_push}
use Rattle.pp_steal.proofs.Making.{new_deque}
use Rattle.pp_steal.proofs.make.deques.Goals as goal

pub loop-lane-preserved : goal.loop-lane-preserved
loop-lane-preserved c =
    let i = c.loop-lane.invariant in
    let workers = c.loop-lane.workers.items in
    let w = c.in_ok-fifo_as.field-0 in
    let f = c.in_ok-fifo_as.ensures in
    record {
      count = ap length c.push_reserved.ensures.items ∙ omega (arith, length-append workers (w ∷ []), i.count);
      room = rw c.push_reserved.ensures.capacity i.room;
      unused = λ deal. rw c.push_reserved.ensures.items (each_push (IsDealt deal c.args.lanes c.args.pieces 0) workers w (new_deque deal c.args.lanes c.args.pieces (length workers) w f.0.1 f.3 f.4) (i.unused deal));
    }
