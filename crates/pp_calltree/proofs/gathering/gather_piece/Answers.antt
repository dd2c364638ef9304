use Rattle.std.proofs.Common.{arith}
use Rattle.pp_count.specs.Scope.{samples_in_scope}
use Rattle.pp_steal.proofs.PieceLemmas.{piece_is}
use Rattle.pp_calltree.proofs.gathering.gather_piece.Goals as goal

pub returns : goal.returns
returns c =
    rw (piece_is (samples_in_scope c.args.scope.now) c.args.piece c.min-count.result (omega (arith, c.min-count.ensures, c.requires.counts)))
    at c.gather_range.ensures
