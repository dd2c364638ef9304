use Rattle.std.proofs.Common.{ap, ◌∙◌}
use Rattle.pp_pattern.specs.Masks.{masked}
use Rattle.pp_pattern.proofs.AskedLemmas.{masked_is}
use Rattle.pp_pattern.proofs.asking.judge_pattern.Goals as goal

-- what is masked of the matcher's verdicts
pub returns-clause-found : goal.returns-clause-found
returns-clause-found g c =
    masked_is g.D.Desk.finds _ _ c.args.pattern.now c.args.subjects.now c.in-Some.found c.mask.new.found (rw c.in-Some.is at c.in_ok-found.ensures)
    (c.mask.ensures ∙ ap (λ subjects. masked subjects c.in-Some.found) c.as_slice.ensures)
