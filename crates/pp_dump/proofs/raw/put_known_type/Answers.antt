use Rattle.std.proofs.Common.{codes, ◌++◌}
use Rattle.pp_base.proofs.TextLemmas.{joined_on}
use Rattle.pp_dump.specs.Raw.{known_type_line}
use Rattle.pp_base.proofs.TextLemmas.{then_more}
use Rattle.pp_dump.proofs.raw.put_known_type.Goals as goal

-- the five parts in turn
pub returns : goal.returns
unfolding known_type_line
returns c =
    let old = c.args.lines.now in
    let kind = c.args.kind.now in
    let unit = c.args.unit.now in
    joined_on c.extend-5.result old _ _ _ (codes "PeriodType: " ++ kind ++ codes " ") unit (codes "\n")
    (then_more old _ _ (codes "PeriodType: " ++ kind) (codes " ")
    (then_more old _ _ (codes "PeriodType: ") kind c.in_ok-extend.ensures.ok c.in_ok-extend-2.ensures.ok)
    c.in_ok-extend-3.ensures.ok)
    c.in_ok-extend-4.ensures.ok c.extend-5.ensures.ok
