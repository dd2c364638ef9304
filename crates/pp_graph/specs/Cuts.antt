-- Which names are kept, and which edges are cut. No public clause cites this file.
use Rattle.std.specs.Prelude.{ℕ, Bool, not, List, ◌++◌, map, take, drop, Option, Some, None, if◌then◌else◌}
use Rattle.std.specs.List.{list_any, range_with_len}
use Rattle.std.specs.Ordering.{nat_cmp, eq_by_cmp}
use Rattle.pp_count.specs.declared.edge.Edge.{Edge}
use Rattle.pp_count.specs.Ranks.{is_heavy}

-- for each name whether its number is among these
abbrev pub kept_flags : ℕ → List ℕ → List Bool
kept_flags names order =
    map (λ n. list_any (eq_by_cmp nat_cmp n) order) (range_with_len 0 names)

-- the edge is heavy enough to be shown
abbrev pub is_heavy_edge : ℕ → ℕ → Edge → Bool
is_heavy_edge total billionths edge = is_heavy total billionths edge.value

-- it is not
abbrev pub is_light_edge : ℕ → ℕ → Edge → Bool
is_light_edge total billionths edge = not (is_heavy total billionths edge.value)

-- the edge, none where it is too light
abbrev pub heavy_only : ℕ → ℕ → Edge → Option Edge
heavy_only total billionths edge =
    if is_heavy total billionths edge.value then Some edge else None

-- the edges by number once the first n have been looked at
abbrev pub cut_to : ℕ → ℕ → ℕ → List Edge → List (Option Edge)
cut_to total billionths n edges =
    map (heavy_only total billionths) (take n edges) ++ map Some (drop n edges)
