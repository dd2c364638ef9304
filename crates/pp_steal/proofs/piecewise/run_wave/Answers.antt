use Rattle.std.proofs.Common.{arith}
use Rattle.std.proofs.lemmas.Result.{IfOk-weaker}
use Rattle.pp_steal.proofs.PieceLemmas.{outcomes_are}
use Rattle.pp_steal.proofs.piecewise.run_wave.Goals as goal

-- what the lanes gave are all pieces
pub returns : goal.returns
returns g c =
    IfOk-weaker c.run_pieces.result _ _
    (λ parts are. outcomes_are (g.W.Piecewise.right c.args.work.now) c.args.wave.now c.pieces_of-pieces.result parts are (omega (arith, c.pieces_of-pieces.ensures.whole)))
    c.run_pieces.ensures
