use Rattle.std.proofs.Common.{false, ◌∙◌}
use Rattle.regex.proofs.ForCallers.{is_match_alike}
use Rattle.pp_regex.proofs.searching.has_match.Goals as goal

-- a search by a pattern that matches alike, of bytes
pub returns-clause-found : goal.returns-clause-found
returns-clause-found c re same =
    c.is_match.ensures.found ∙ is_match_alike same c.args.subject.now (λ k. (c.type_inv.subject k).fits) false 0
