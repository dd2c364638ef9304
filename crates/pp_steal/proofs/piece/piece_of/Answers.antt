use Rattle.std.proofs.Common.{arith}
use Rattle.pp_steal.proofs.PieceLemmas.{piece_cut}
use Rattle.pp_steal.proofs.piece.piece_of.Goals as goal

pub returns : goal.returns
returns g c = piece_cut c.args.items.now c.args.piece c.min-count.result (omega (arith, c.min-count.ensures))
