use Rattle.std.proofs.Common.{◌∙◌}
use Rattle.pp_tags.specs.TagFilters.{is_comma}
use Rattle.pp_tags.proofs.SplitLemmas.{parts_more, parts_end}
use Rattle.pp_tags.proofs.tag_filter.parts_of.Goals as goal

-- a part is cut off
pub loop-part-preserved : goal.loop-part-preserved
loop-part-preserved c =
    parts_more is_comma _ _ _ c.loop-part.rest.now _ _ c.loop-part.invariant c.in-Some.ensures.found
    (c.in_ok-from_slice.ensures ∙ c.in-Some.ensures.before) c.in-Some.ensures.after c.in_ok-push.ensures.ok

-- the rest is the last part
pub returns : goal.returns
returns c = parts_end is_comma _ _ _ c.loop-part.rest.now _ c.loop-part.invariant c.in_default.ensures.found c.in_ok-from_slice-2.ensures c.in_ok-push-2.ensures.ok
