use Rattle.std.proofs.Common.{sym, ◌∙◌}
use Rattle.pp_count.proofs.Matching.{no_line}
use Rattle.pp_count.proofs.filters.reaches.Goals as goal

pub returns-in-Some : goal.returns-in-Some
returns-in-Some c = λ p texts fits none found is.
    no_line p found c.in-Some.table (fits found is c.in-Some.table c.in-Some.is) (sym c.finds_line.ensures ∙ none)
