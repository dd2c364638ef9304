use Rattle.std.proofs.Common.{arith}
use Rattle.pp_source.proofs.RowLemmas.{is_shown}
use Rattle.pp_source.proofs.rows.shown_places.Goals as goal

pub returns-clause-within : goal.returns-clause-within
returns-clause-within c = omega (arith, c.min-to.ensures)

-- no place of a file lies past the greatest number
pub returns-clause-shown : goal.returns-clause-shown
returns-clause-shown c place within =
    rw (c.saturating_sub-from.ensures, c.min-to.ensures, c.saturating_add.ensures)
    (is_shown c.args.span.first c.args.span.last c.args.count place (omega arith) within)
