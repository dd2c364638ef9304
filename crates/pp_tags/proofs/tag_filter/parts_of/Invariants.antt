use Rattle.std.proofs.Common.{◌≡◌, ◌++◌, length}
use Rattle.std.specs.List.{slice_split}
use Rattle.pp_tags.specs.TagFilters.{is_comma}
use Rattle.pp_tags.proofs.tag_filter.parts_of.Given as goal

-- the parts so far, and those of the rest
abbrev pub invariant-loop-part : goal.invariant-loop-part
invariant-loop-part l = l.parts ++ slice_split is_comma l.rest ≡ slice_split is_comma l.fn.text

abbrev pub decreases-loop-part : goal.decreases-loop-part
decreases-loop-part l = length l.rest
