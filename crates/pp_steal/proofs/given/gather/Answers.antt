use Rattle.std.proofs.Common.{sym, ap, subst, arith, ◌∙◌, ◌≡◌, ◌<◌, ◌≤◌, ◌+◌, ℕ, [], ◌∷◌, ◌++◌, length, length-append, drop, get_or}
use Rattle.pp_steal.specs.Room.{RoomFor, HasLaneRoom}
use Rattle.pp_steal.specs.Closing.{Gathers, first_make}
use Rattle.pp_steal.specs.Lanes.{Make}
use Rattle.pp_steal.proofs.Ends.{next_is, next_gone}
use Rattle.pp_steal.proofs.Gathering.{gathers_none, gathers_more, whole_parts, lane_make, row_count, parts_of}
use Rattle.pp_steal.proofs.given.gather.Goals as goal

-- the first lane's parts, in the room that it brings
pub loop-lane-init : goal.loop-lane-init
loop-lane-init c =
    let lanes = c.args.lanes.items in
    let make = first_make lanes in
    let s = c.remove.result in
    let p = c.into_parts-deal in
    let lt : 0 < length c.args.lanes.items = c.requires.some in
    let h : HasLaneRoom (length p.result.chairs.items) s.make.pieces c.in-Some.room = subst (RoomFor s.own (length p.result.chairs.items) s.make.pieces) c.in-Some.is p.ensures.room in
    let m : s.make ≡ make = lane_make make lanes 0 s c.requires.all lt c.remove.ensures.value in
    let n : length c.args.lanes.items ≤ length p.result.chairs.items = let k = row_count make lanes s p.result.chairs.items c.requires.all m p.ensures.deques in omega arith in
    let g : Gathers make 1 lanes (p.result.worker ∷ []) (p.result.chairs ∷ []) (c.from_vec.result ∷ []) =
    gathers_more make lanes 0 s [] [] [] p.result.worker p.result.chairs c.from_vec.result c.requires.all lt c.remove.ensures.value (gathers_none make lanes) p.ensures.deques (c.from_vec.ensures ∙ p.ensures.taken) p.ensures.tends p.ensures.home in
    let one : length c.push_reserved.new.self.items ≡ 1 = ap length c.push_reserved.ensures.items ∙ ap (λ l. length (l ++ p.result.worker ∷ [])) h.workers.0 in
    let rest = c.into_iter-lane-iterator.ensures.into_iter_gives.0 in
    let fewer = ap length c.remove.ensures.by_index.2 in
    let less = c.remove.ensures.len in
    let count : length c.into_iter-lane-iterator.result.rest.items ≡ length c.remove.new.self.items = ap length rest in
    record {
      lanes = rest ∙ c.remove.ensures.by_index.2 ∙ ap (λ (k : ℕ). drop k lanes) (sym one);
      many = omega arith;
      gathers = subst (λ (k : ℕ). Gathers make k lanes c.push_reserved.new.self.items c.push_reserved-2.new.self.items c.push_reserved-3.new.self.items) (sym one)
          (rw (c.push_reserved.ensures.items, h.workers.0, c.push_reserved-2.ensures.items, h.rows.0, c.push_reserved-3.ensures.items, h.taken.0) g);
      parts = (p.ensures.deal ∙ ap (λ (k : Make). k.deal) m, p.ensures.pieces ∙ ap (λ (k : Make). k.pieces) m);
      room = (rw c.push_reserved.ensures.capacity (let a = h.workers.1 in omega arith), rw c.push_reserved-2.ensures.capacity (let a = h.rows.1 in omega arith), rw c.push_reserved-3.ensures.capacity (let a = h.taken.1 in omega arith));
    }

-- the next lane's parts
pub loop-lane-preserved : goal.loop-lane-preserved
loop-lane-preserved c =
    let lanes = c.args.lanes.items in
    let make = first_make lanes in
    let i = c.loop-lane.invariant in
    let own : ℕ = length c.loop-lane.workers.items in
    let s = c.in-Some-lane.lane in
    let e = c.in-Some-lane.ensures.steps.0 in
    let p = c.into_parts-worker in
    let less = ap length e in
    let many = i.many in
    let lt : length c.loop-lane.workers.items < length c.args.lanes.items = omega arith in
    let at : s ≡ get_or lanes own s = next_is lanes c.loop-lane.lane-iterator.rest.items c.next.new.self.rest.items own s i.lanes e in
    let g = gathers_more make lanes own s c.loop-lane.workers.items c.loop-lane.rows.items c.loop-lane.taken.items p.result.worker p.result.chairs c.from_vec-in-loop-lane.result c.requires.all lt at i.gathers p.ensures.deques (c.from_vec-in-loop-lane.ensures ∙ p.ensures.taken) p.ensures.tends p.ensures.home in
    let more : length c.push_reserved-in-loop-lane.new.self.items ≡ length c.loop-lane.workers.items + 1 = ap length c.push_reserved-in-loop-lane.ensures.items ∙ omega (arith, length-append c.loop-lane.workers.items (p.result.worker ∷ [])) in
    record {
      lanes = next_gone lanes c.loop-lane.lane-iterator.rest.items c.next.new.self.rest.items own s i.lanes e ∙ ap (λ (k : ℕ). drop k lanes) (sym more);
      many = omega arith;
      gathers = subst (λ (k : ℕ). Gathers make k lanes c.push_reserved-in-loop-lane.new.self.items c.push_reserved-in-loop-lane-2.new.self.items c.push_reserved-in-loop-lane-3.new.self.items) (sym more)
          (rw (c.push_reserved-in-loop-lane.ensures.items, c.push_reserved-in-loop-lane-2.ensures.items, c.push_reserved-in-loop-lane-3.ensures.items) g);
      parts = i.parts;
      room = (rw c.push_reserved-in-loop-lane.ensures.capacity i.room.0, rw c.push_reserved-in-loop-lane-2.ensures.capacity i.room.1, rw c.push_reserved-in-loop-lane-3.ensures.capacity i.room.2);
    }

pub returns-clause-parts : goal.returns-clause-parts
returns-clause-parts c =
    let i = c.loop-lane.invariant in
    let none = c.in-None.ensures.steps.0 in
    let many = i.many in
    parts_of (first_make c.args.lanes.items) _ _ _ _ _ i.parts.0 i.parts.1 (whole_parts (first_make c.args.lanes.items) c.args.lanes.items (length c.loop-lane.workers.items) _ _ _ c.requires.all c.requires.some (omega arith) i.gathers).0
