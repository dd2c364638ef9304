use Rattle.std.proofs.Common.{ap, ◌∙◌, ◌≡◌, [], refl, arith, length}
use Rattle.pp_steal.specs.Lanes.{Standing}
use Rattle.pp_steal.proofs.Ends.{next_is}
use Rattle.pp_steal.proofs.Placing.{station_more}
use Rattle.pp_steal.proofs.station.stations_for.Goals as goal

-- one station more
pub loop-lane-preserved : goal.loop-lane-preserved
loop-lane-preserved g c =
    let i = c.loop-lane.invariant in
    let h = i.stations in
    let lane = c.in-Some.lane in
    let all = c.loop-lane.all.items in
    let e = c.in-Some.ensures.steps.0 in
    let less = ap length e in
    let many = h.many in
    let at = next_is c.args.lanes c.loop-lane.lane-iterator.rest.items c.next.new.self.rest.items (length all) lane h.left e in
    let new : lane.taken ≡ [] = ap (λ (s : Standing). s.taken) at ∙ c.requires (length all) lane (omega arith) in
    record {
      stations = rw c.push_reserved.ensures.items (station_more c.args.lanes c.loop-lane.lane-iterator.rest.items c.next.new.self.rest.items all lane _ h e refl (record { taken = new; outcomes = c.new.ensures.items }));
      room = rw c.push_reserved.ensures.capacity i.room;
    }
