-- Lists of keys, as the options tagroot and tagleaf spell them.
use Rattle.std.specs.Prelude.{ℕ, not, List, filter}
use Rattle.std.specs.List.{slice_split}
use Rattle.pp_stack.specs.Filters.{has_no_items}
use Rattle.pp_tags.specs.TagFilters.{is_comma}

-- The parts between commas that aren't empty, in order.
abbrev pub key_list : List ℕ → List (List ℕ)
key_list text = filter (λ part. not (has_no_items part)) (slice_split is_comma text)
