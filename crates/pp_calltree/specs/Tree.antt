-- A call tree as a list of its nodes, parents before children.
use Rattle.std.specs.Prelude.{◌≡◌, ℕ, ◌+◌, ◌<◌, ◌==◌, ◌^◌, nat_lt, nat_abs, ℤ, pos, ◌+ℤ◌, List, [], ◌∷◌, take, drop, map, All, Option, Some, None, if◌then◌else◌}
use Rattle.std.specs.List.{sum_by, slice_get}
use Rattle.std.specs.Option.{option_map_or}
use Rattle.std.specs.Ordering.{eq_by_cmp}
use Rattle.pp_model.specs.declared.config.Config.{Config}
use Rattle.pp_model.specs.declared.loaded.Loaded.{Loaded}
use Rattle.pp_model.specs.declared.profile.Profile.{Profile}
use Rattle.pp_model.specs.declared.verdicts.Verdicts.{Verdicts}
use Rattle.pp_model.specs.Finders.{Finders}
use Rattle.pp_model.specs.FrameTexts.{Written}
use Rattle.pp_grain.specs.Keys.{key_cmp, IsKeyOf}
use Rattle.pp_count.specs.Seeing.{HoldsFilters}
use Rattle.pp_calltree.specs.declared.tree.PathNode.{PathNode}
use Rattle.pp_calltree.specs.CallTree.{TreeRow, tree_nodes}
use Rattle.pp_calltree.specs.Laid.{node_row}

-- the first of the nodes, which is a root
abbrev pub first_root : List PathNode → Option ℕ
first_root [] = None
first_root (_ ∷ _) = Some 0

-- the depth of the node at the place
abbrev pub depth_at : List PathNode → ℕ → ℕ
depth_at nodes n = option_map_or (λ node. node.depth) (slice_get nodes n) 0

-- the node after this one, where it stands deeper
abbrev pub first_child : List PathNode → ℕ → Option ℕ
first_child nodes n =
    option_map_or (λ next. if nat_lt (depth_at nodes n) next.depth then Some (n + 1) else None)
    (slice_get nodes (n + 1)) None

-- the place of the next node of this depth, unless one that is less deep stands before it, where these stand from that
-- place on
abbrev pub sibling_in : ℕ → ℕ → List PathNode → Option ℕ
sibling_in depth place [] = None
sibling_in depth place (node ∷ nodes) =
    if nat_lt depth node.depth then sibling_in depth (place + 1) nodes
    else (if node.depth == depth then Some place else None)

-- the next node that is below the same one
abbrev pub next_sibling : List PathNode → ℕ → Option ℕ
next_sibling nodes n = sibling_in (depth_at nodes n) (n + 1) (drop (n + 1) nodes)

-- the place of the last of these nodes that is less deep, where the first of them stands at `place`; `other` where none
-- is
abbrev pub above_in : ℕ → ℕ → Option ℕ → List PathNode → Option ℕ
above_in depth place other [] = other
above_in depth place other (node ∷ nodes) =
    above_in depth (place + 1) (if nat_lt node.depth depth then Some place else other) nodes

-- the last node before this one that is less deep
abbrev pub parent : List PathNode → ℕ → Option ℕ
parent nodes n = above_in (depth_at nodes n) 0 None (take n nodes)

-- the sum of the flats of the nodes with this key
abbrev pub flats_with : Written → List (TreeRow Written) → ℤ
flats_with k [] = pos 0
flats_with k (row ∷ rows) =
    (if eq_by_cmp key_cmp k row.key then row.flat else pos 0) +ℤ flats_with k rows

-- the sum of the flats of the tree's nodes with this key
abbrev pub flats_at : Profile → List PathNode → Written → ℤ
flats_at p nodes k = flats_with k (map (node_row p) nodes)

-- The nodes are those of the report's call tree. All keys are keys of the profile, and the flats can be added up.
pub record IsTreeOf (l : Loaded) (v : Verdicts) (config : Config) (column : Option ℕ)
    (nodes : List PathNode) : Type 0 where
  pub rows : (f : Finders) → HoldsFilters l v config.filtering f
      → map (node_row l.profile) nodes ≡ tree_nodes l.profile f config column
  pub keys : All (λ n. IsKeyOf l.profile n.key) nodes
  pub fits : sum_by (λ n. nat_abs n.flat) nodes < 2 ^ 63
