use Rattle.std.proofs.Common.{nat_le, rules, tests, ◌∙◌}
use Rattle.std.proofs.lemmas.Iterator.{YieldsList-from_slice}
use Rattle.std.proofs.lemmas.Iterator.Search.{find_from_yields_List}
use Rattle.pp_units.specs.Scales.{factor}
use Rattle.pp_units.proofs.scale.first_within.Goals as goal

-- `find` gives what `find` of the list gives, and `copied` what it refers to
pub returns : goal.returns
returns c =
    c.copied.ensures
    ∙ find_from_yields_List (λ scale. nat_le (factor scale) c.args.amount) _ _ c.find.result c.find.ensures.ran (YieldsList-from_slice c.args.scales.now cc) (λ x b q k. search (rules, tests))
