use Rattle.std.proofs.Common.{ap, arith, ◌∙◌, ◌<◌, length, length-set, length-append, [], ◌∷◌}
use Rattle.pp_steal.proofs.Making.{seat_keeps, seat_homes, chairs_more}
use Rattle.pp_steal.proofs.make.DealTable.row.Goals as goal

-- one chair more, at the next deque, whose owner is then marked
pub loop-lane-preserved : goal.loop-lane-preserved
loop-lane-preserved c =
    let i = c.loop-lane.invariant in
    let new = c.seat.new.worker in
    let workers = c.loop-lane.self.workers.items in
    let lane = c.loop-lane.lane in
    let deal = c.args.self.now.deal in
    let pieces = c.args.self.now.pieces in
    let lanes = c.len-lanes.result in
    let lt : c.loop-lane.lane < length c.loop-lane.self.workers.items = omega arith in
    let value = c.index_mut.ensures.value in
    let k = seat_keeps deal lanes pieces lane workers _ new lt value c.in_ok-seat.ensures.view i.ready i.marked in
    let h = seat_homes workers lane _ new value c.seat.ensures.same in
    let chairs = c.loop-lane.chairs.items in
    let m = chairs_more deal lanes pieces workers chairs c.index_mut.result.now c.in_ok-seat.field-0 (omega arith) i.ready (rw i.chairs.0 value) (c.in_ok-seat.ensures.at, c.in_ok-seat.ensures.fresh) (rw i.chairs.0 i.at) i.fresh in
    record {
      same = i.same;
      count = (length-set workers lane new ∙ i.count.0, i.count.1);
      ready = k.0;
      marked = k.1;
      homes = h ∙ i.homes;
      chairs = (ap length c.push_reserved.ensures.items ∙ omega (arith, length-append chairs (c.in_ok-seat.field-0 ∷ [])), rw c.push_reserved.ensures.capacity i.chairs.1);
      at = rw (c.push_reserved.ensures.items, h, ← i.chairs.0) m.0;
      fresh = rw c.push_reserved.ensures.items m.1;
    }
