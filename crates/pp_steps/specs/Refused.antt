-- Which profiles can be merged.
use Rattle.std.specs.Prelude.{◌≡◌, List, ◌++◌, length, map, None}
use Rattle.pp_merge.specs.Merge.{disagreeing, too_large}
use Rattle.pp_steps.specs.Steps.{Group, sources_of, all_sources, merged_group}

-- The group's profiles agree, and no column of them is too large: merging them is refused for want of memory alone.
pub record IsMergeable (g : Group) : Type 0 where
  pub agree : disagreeing g.first 1 g.others ≡ None
  pub sums : too_large (length g.first.sample_type) (sources_of g) ≡ None

-- all profiles of the groups, as one group
abbrev pub one_group : Group → List Group → Group
one_group g groups = record { first = g.first; others = g.others ++ all_sources groups }

-- the merges of the groups, as a group
abbrev pub group_of_merges : Group → List Group → Group
group_of_merges g groups = record { first = merged_group g; others = map merged_group groups }
