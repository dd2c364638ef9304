use Rattle.std.proofs.Common.{arith}
use Rattle.pp_count.specs.Scope.{samples_in_scope}
use Rattle.pp_steal.proofs.PieceLemmas.{piece_is}
use Rattle.pp_count.proofs.counting.count_piece_of.Goals as goal

pub returns : goal.returns
returns c =
    rw (piece_is (samples_in_scope c.args.scope.now) c.args.piece c.min-count.result (omega (arith, c.min-count.ensures, c.count_of.ensures)))
    at c.count_range.ensures
