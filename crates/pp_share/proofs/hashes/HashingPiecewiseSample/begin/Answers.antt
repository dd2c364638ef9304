use Rattle.std.proofs.lemmas.Result.{IfOk-weaker}
use Rattle.pp_share.proofs.hashes.HashingPiecewiseSample.begin.Goals as goal

-- no sample has a hash yet, whichever hash it is
pub returns : goal.returns
returns g c = IfOk-weaker c.with_room.result _ _ (λ hashes none. none (g.H.SampleHash.hash c.args.self.now.by.now)) c.with_room.ensures
