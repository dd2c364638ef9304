use Rattle.pp_steal.proofs.Placing.{finish_more}
use Rattle.pp_steal.proofs.station.finish.Goals as goal

-- one station more, which did not stop
pub loop-station-preserved : goal.loop-station-preserved
loop-station-preserved g c =
    let i = c.loop-station.invariant in
    let s = c.in-Some.station in
    record {
      finished = rw (c.push_reserved.ensures.items, c.push_reserved-in-loop-station.ensures.items) (finish_more c.args.stations.items c.loop-station.station-iterator.rest.items c.next.new.self.rest.items c.loop-station.lanes.items c.loop-station.all.items s i.finished c.in-Some.ensures.steps.0 c.if-stopped.false);
      room = (rw c.push_reserved.ensures.capacity i.room.0, rw c.push_reserved-in-loop-station.ensures.capacity i.room.1);
    }
