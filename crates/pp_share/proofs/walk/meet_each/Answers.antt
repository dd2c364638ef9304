use Rattle.std.proofs.Common.{arith}
use Rattle.pp_share.proofs.WalkLemmas.{met_next}
use Rattle.pp_share.proofs.walk.meet_each.Goals as goal

pub loop-item-preserved : goal.loop-item-preserved
loop-item-preserved g c =
    met_next g.T.Refers.refs c.args.items.now c.loop-item.item-index c.item-item.result c.args.met.now
    c.loop-item.met c.meet.new.met (omega arith) c.item-item.is c.loop-item.invariant c.in_ok-meet.ensures
