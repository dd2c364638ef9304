use Rattle.std.proofs.Common.{arith, ◌<◌, ◌∙◌, length, length-set}
use Rattle.pp_steal.proofs.Making.{dealt_under, deal_more}
use Rattle.pp_steal.proofs.Closing.{lane_below}
use Rattle.pp_steal.proofs.make.DealTable.deal_out.Goals as goal

pub deal_one-requires-clause-above : goal.deal_one-requires-clause-above
deal_one-requires-clause-above c =
    let i = c.loop-piece.invariant in
    let some = c.requires.some in
    let lt : c.lane_of_piece-lane.result < length c.loop-piece.self.workers.items = omega (arith, lane_below c.loop-piece.self.deal c.len-lanes.result c.loop-piece.piece (omega arith), c.lane_of_piece-lane.ensures, i.count.0) in
    dealt_under c.loop-piece.self.deal c.len-lanes.result c.loop-piece.self.pieces c.loop-piece.piece c.lane_of_piece-lane.result c.loop-piece.self.workers.items c.index_mut.result.now lt c.index_mut.ensures.value i.dealt

-- the piece is dealt to its lane's deque, and the other deques stay
pub loop-piece-preserved : goal.loop-piece-preserved
loop-piece-preserved c =
    let i = c.loop-piece.invariant in
    let some = c.requires.some in
    let lane = c.lane_of_piece-lane.result in
    let workers = c.loop-piece.self.workers.items in
    let d = c.deal_one.ensures in
    let lt : c.lane_of_piece-lane.result < length c.loop-piece.self.workers.items = omega (arith, lane_below c.loop-piece.self.deal c.len-lanes.result c.loop-piece.piece (omega arith), c.lane_of_piece-lane.ensures, i.count.0) in
    record {
      same = i.same;
      count = (length-set workers lane c.deal_one.new.worker ∙ i.count.0, i.count.1);
      dealt = deal_more c.loop-piece.self.deal c.len-lanes.result c.loop-piece.self.pieces c.loop-piece.piece lane workers c.index_mut.result.now c.deal_one.new.worker lt c.lane_of_piece-lane.ensures c.index_mut.ensures.value i.dealt d.room d.used d.view;
    }
