use Rattle.std.proofs.Common.{rules, ◌∙◌}
use Rattle.std.proofs.lemmas.Fn.{always_returns_same}
use Rattle.pp_tags.specs.TagPairs.{tag_of, tag_cmp}
use Rattle.pp_tags.proofs.SearchLemmas.{searched, verdict_found}
use Rattle.pp_tags.proofs.selecting.tag_verdict.Goals as goal

-- the tag is found, and its verdict is read
pub returns-in-Ok : goal.returns-in-Ok
returns-in-Ok c find are rising inside =
    let found = c.binary_search_by.ensures.position (λ t. tag_cmp t (tag_of c.args.label.now)) (always_returns_same _ _ _ (λ a r f called. search rules)) in
    let at = searched c.args.tags.now (tag_of c.args.label.now) c.binary_search_by.result rising inside found in
    c.verdict_at.ensures ∙ verdict_found c.args.tags.now c.args.found.now find (tag_of c.args.label.now) c.in-Ok.place are c.in-Ok.ensures.bound (rw c.in-Ok.is at at)

-- the tag is among those that are searched
pub returns-in-Err : goal.returns-in-Err
returns-in-Err c find are rising inside =
    let found = c.binary_search_by.ensures.position (λ t. tag_cmp t (tag_of c.args.label.now)) (always_returns_same _ _ _ (λ a r f called. search rules)) in
    let never = searched c.args.tags.now (tag_of c.args.label.now) c.binary_search_by.result rising inside found in
    absurd (rw c.in-Err.is at never)
