use Rattle.std.proofs.Common.{ℕ, ◌≡◌, ◌+◌, sym, ap, arith, subst, ◌∙◌, ◌<◌, length, length-append, drop, [], ◌∷◌, ◌++◌}
use Rattle.pp_steal.proofs.Ends.{next_is, next_gone}
use Rattle.pp_steal.proofs.Making.{as_many, lane_home, row_last, lanes_more, ready_at}
use Rattle.pp_steal.specs.Lanes.{homes_of, AreFresh, make_of}
use Rattle.pp_steal.specs.Room.{RoomFor}
use Rattle.pp_steal.proofs.make.DealTable.into_lanes.Goals as goal

pub new-requires-clause-few : goal.new-requires-clause-few
new-requires-clause-few c =
    let i = c.loop-worker.invariant in
    let r = (row_last c.args.self.deal c.len-count.result c.args.self.pieces (homes_of c.args.self.workers.items) c.loop-worker.rows.items c.pop.new.self.items c.in-Some-pop.chairs i.rows c.in-Some-pop.ensures.items).1 in
    let n = as_many c.args.self.workers.items c.in-Some-pop.chairs.items r.0 in
    let e = ap length c.in-Some.ensures.steps.0 in
    (omega (arith, i.count, i.same.2), omega (arith, i.same.2))

pub new-requires-clause-ready : goal.new-requires-clause-ready
new-requires-clause-ready c =
    let i = c.loop-worker.invariant in
    let workers = c.args.self.workers.items in
    let r = (row_last c.args.self.deal c.len-count.result c.args.self.pieces (homes_of c.args.self.workers.items) c.loop-worker.rows.items c.pop.new.self.items c.in-Some-pop.chairs i.rows c.in-Some-pop.ensures.items).1 in
    let n = as_many workers c.in-Some-pop.chairs.items r.0 in
    let e = ap length c.in-Some.ensures.steps.0 in
    let own_is : c.len-own.result ≡ length c.loop-worker.lanes.items = omega (arith, c.len-own.ensures) in
    let w = next_is workers c.loop-worker.worker-iterator.rest.items c.next.new.self.rest.items c.len-own.result c.in-Some.worker (i.workers ∙ ap (λ (k : ℕ). drop k workers) (sym own_is)) c.in-Some.ensures.steps.0 in
    let lt : c.len-own.result < length c.args.self.workers.items = omega (arith, i.count, i.same.2) in
    (ready_at c.args.self.deal (length c.in-Some-pop.chairs.items) c.args.self.pieces workers c.len-own.result c.in-Some.worker lt w (rw n c.requires.ready) c.requires.marked).0

pub new-requires-clause-marked : goal.new-requires-clause-marked
new-requires-clause-marked c =
    let i = c.loop-worker.invariant in
    let workers = c.args.self.workers.items in
    let e = ap length c.in-Some.ensures.steps.0 in
    let own_is : c.len-own.result ≡ length c.loop-worker.lanes.items = omega (arith, c.len-own.ensures) in
    let w = next_is workers c.loop-worker.worker-iterator.rest.items c.next.new.self.rest.items c.len-own.result c.in-Some.worker (i.workers ∙ ap (λ (k : ℕ). drop k workers) (sym own_is)) c.in-Some.ensures.steps.0 in
    let lt : c.len-own.result < length c.args.self.workers.items = omega (arith, i.count, i.same.2) in
    (ready_at c.args.self.deal (length workers) c.args.self.pieces workers c.len-own.result c.in-Some.worker lt w c.requires.ready c.requires.marked).1

pub new-requires-clause-home : goal.new-requires-clause-home
new-requires-clause-home c =
    let i = c.loop-worker.invariant in
    let workers = c.args.self.workers.items in
    let r = (row_last c.args.self.deal c.len-count.result c.args.self.pieces (homes_of c.args.self.workers.items) c.loop-worker.rows.items c.pop.new.self.items c.in-Some-pop.chairs i.rows c.in-Some-pop.ensures.items).1 in
    let e = ap length c.in-Some.ensures.steps.0 in
    let own_is : c.len-own.result ≡ length c.loop-worker.lanes.items = omega (arith, c.len-own.ensures) in
    let w = next_is workers c.loop-worker.worker-iterator.rest.items c.next.new.self.rest.items c.len-own.result c.in-Some.worker (i.workers ∙ ap (λ (k : ℕ). drop k workers) (sym own_is)) c.in-Some.ensures.steps.0 in
    let lt : c.len-own.result < length c.args.self.workers.items = omega (arith, i.count, i.same.2) in
    lane_home workers _ c.len-own.result _ r.0 lt w

pub new-requires-clause-chairs : goal.new-requires-clause-chairs
new-requires-clause-chairs c =
    let i = c.loop-worker.invariant in
    let r = (row_last c.args.self.deal c.len-count.result c.args.self.pieces (homes_of c.args.self.workers.items) c.loop-worker.rows.items c.pop.new.self.items c.in-Some-pop.chairs i.rows c.in-Some-pop.ensures.items).1 in
    let e = as_many c.args.self.workers.items c.in-Some-pop.chairs.items r.0 in
    let n : length c.in-Some-pop.chairs.items ≡ c.len-count.result = omega (arith, i.same.2) in
    subst (λ (k : ℕ). AreFresh c.args.self.deal k c.args.self.pieces c.in-Some-pop.chairs.items) (sym n) r.1

pub new-requires-clause-room : goal.new-requires-clause-room
new-requires-clause-room c =
    let i = c.loop-worker.invariant in
    let r = (row_last c.args.self.deal c.len-count.result c.args.self.pieces (homes_of c.args.self.workers.items) c.loop-worker.rows.items c.pop.new.self.items c.in-Some-pop.chairs i.rows c.in-Some-pop.ensures.items).1 in
    let e = as_many c.args.self.workers.items c.in-Some-pop.chairs.items r.0 in
    let n : length c.in-Some-pop.chairs.items ≡ c.len-count.result = omega (arith, i.same.2) in
    subst (λ (k : ℕ). RoomFor c.len-own.result k c.args.self.pieces c.in_ok-room_for.field-0) (sym n) c.in_ok-room_for.ensures

-- one lane more
pub loop-worker-preserved : goal.loop-worker-preserved
loop-worker-preserved c =
    let i = c.loop-worker.invariant in
    let workers = c.args.self.workers.items in
    let lanes = c.loop-worker.lanes.items in
    let r = row_last c.args.self.deal c.len-count.result c.args.self.pieces (homes_of c.args.self.workers.items) c.loop-worker.rows.items c.pop.new.self.items c.in-Some-pop.chairs i.rows c.in-Some-pop.ensures.items in
    let e = c.in-Some.ensures.steps.0 in
    let less = ap length e in
    let fewer : length c.loop-worker.rows.items ≡ length (c.pop.new.self.items ++ c.in-Some-pop.chairs ∷ []) = ap length c.in-Some-pop.ensures.items in
    let own_is : c.len-own.result ≡ length c.loop-worker.lanes.items = omega (arith, c.len-own.ensures) in
    let more : length c.push_reserved.new.self.items ≡ length c.loop-worker.lanes.items + 1 = ap length c.push_reserved.ensures.items ∙ omega (arith, length-append lanes (c.new.result ∷ [])) in
    record {
      same = i.same;
      count = omega (arith, i.count);
      workers = next_gone workers c.loop-worker.worker-iterator.rest.items c.next.new.self.rest.items (length lanes) c.in-Some.worker i.workers e ∙ ap (λ (k : ℕ). drop k workers) (sym more);
      many = omega (arith, i.many, length-append c.pop.new.self.items (c.in-Some-pop.chairs ∷ []));
      rows = r.0;
      room = rw c.push_reserved.ensures.capacity i.room;
      new = rw c.push_reserved.ensures.items (lanes_more _ lanes c.new.result i.new (c.new.ensures.make ∙ ap (λ h. make_of h c.args.self.deal c.args.self.pieces) r.1.0) (c.new.ensures.own ∙ own_is, c.new.ensures.taken) c.new.ensures.dealt);
    }
