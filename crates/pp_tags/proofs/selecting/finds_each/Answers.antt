use Rattle.std.proofs.Common.{arith, sym, ap, ◌∙◌}
use Rattle.std.specs.List.{list_all}
use Rattle.std.proofs.lemmas.List.{take_all}
use Rattle.pp_tags.specs.Verdicts.{finds_tag}
use Rattle.pp_tags.proofs.EachLemmas.{finder_at, part_is, settled, more_find, as_many}
use Rattle.pp_tags.proofs.selecting.finds_each.Goals as goal

-- a part finds nothing
pub returns-then-not-finds_tag : goal.returns-then-not-finds_tag
returns-then-not-finds_tag c finds are has =
    let i = c.loop-found.found-index in
    settled c.args.tags.now c.args.parts.now finds are c.args.labels.now i c.loop-found-test.true
    (sym (c.finds_tag.ensures (finder_at c.args.tags.now c.args.parts.now finds are i)
    (part_is c.args.tags.now c.args.parts.now finds are i c.found-item.result c.loop-found-test.true c.found-item.is) has)
    ∙ c.if-not-finds_tag.true)

-- one more part finds something
pub loop-found-preserved : goal.loop-found-preserved
loop-found-preserved c finds are has =
    let i = c.loop-found.found-index in
    more_find c.args.tags.now c.args.parts.now finds are c.args.labels.now i c.loop-found-test.true (c.loop-found.invariant finds are has)
    (sym (c.finds_tag.ensures (finder_at c.args.tags.now c.args.parts.now finds are i)
    (part_is c.args.tags.now c.args.parts.now finds are i c.found-item.result c.loop-found-test.true c.found-item.is) has)
    ∙ c.if-not-finds_tag.false)

-- each finds something
pub returns : goal.returns
returns c finds are has =
    sym (ap (list_all (λ find. finds_tag find c.args.labels.now))
    (sym (take_all c.loop-found.found-index finds (omega (arith, as_many c.args.tags.now c.args.parts.now finds are, c.loop-found-test.false))))
    ∙ c.loop-found.invariant finds are has)
