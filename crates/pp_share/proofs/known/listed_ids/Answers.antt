use Rattle.std.proofs.Common.{arith}
use Rattle.pp_share.proofs.KnownIds.{listed_next}
use Rattle.pp_share.proofs.known.listed_ids.Goals as goal

pub loop-id-preserved : goal.loop-id-preserved
loop-id-preserved c =
    listed_next c.args.ids.now c.loop-id.listed.keys c.insert_full.new.self.keys c.loop-id.id-index c.requires
    (omega arith) c.loop-id.invariant c.in_ok-insert_full.ensures.keys
