-- The call tree of a report: what its samples come to by the path of their keys from the root.
use Rattle.std.specs.Prelude.{ℕ, zero, suc, ◌+◌, ℤ, Bool, true, false, List, [], ◌∷◌, length, map, flat_map, reverse, Option, Some, None, if◌then◌else◌}
use Rattle.std.specs.List.{filter_map, sum_by}
use Rattle.std.specs.Ordering.{then_cmp, eq_by_cmp}
use Rattle.std.specs.declared.cmp.Ordering.{Ordering}
use Rattle.pp_model.specs.declared.config.Config.{Config}
use Rattle.pp_model.specs.declared.profile.Profile.{Profile}
use Rattle.pp_model.specs.Finders.{Finders}
use Rattle.pp_model.specs.FrameTexts.{Written}
use Rattle.pp_grain.specs.Keys.{key_cmp}
use Rattle.pp_count.specs.Sums.{Seen, sum_where}
use Rattle.pp_count.specs.Ranks.{is_heavy, by_size, each_once}
use Rattle.pp_count.specs.Counted.{report_samples}

-- A node: how many keys stand above its own, its key, and two sums. One is over the samples whose path ends at it, the
-- other over those whose path goes through it.
pub record TreeRow (K : Type 0) : Type 0 where
  pub depth : ℕ
  pub key : K
  pub flat : ℤ
  pub cum : ℤ

-- the sample with its keys root first
abbrev pub rooted : {K : Type 0} → Seen K → Seen K
rooted s = record { value = s.value; keys = reverse s.keys }

-- whatever is left of a path
abbrev pub any_path : {K : Type 0} → List K → Bool
any_path path = true

-- nothing is left of it
abbrev pub is_end : {K : Type 0} → List K → Bool
is_end [] = true
is_end (_ ∷ _) = false

-- the first key of a path
abbrev pub first_key : {K : Type 0} → List K → Option K
first_key [] = None
first_key (k ∷ path) = Some k

-- the first keys of the samples' paths, sample by sample
abbrev pub first_keys : {K : Type 0} → List (Seen K) → List K
first_keys samples = filter_map (λ s. first_key s.keys) samples

-- more than the keys of any path: those of all paths
abbrev pub all_lengths : {K : Type 0} → List (Seen K) → ℕ
all_lengths samples = sum_by (λ s. length s.keys) samples

module _ {K : Type 0} (order : K → K → Ordering) where
  -- the sample of this value without the key, where its path begins with it
  abbrev pub below_key : K → ℤ → List K → Option (Seen K)
  below_key k value [] = None
  below_key k value (q ∷ path) =
      if eq_by_cmp order k q then Some (record { value = value; keys = path }) else None

  -- the samples whose path begins with the key, without it
  abbrev pub under : K → List (Seen K) → List (Seen K)
  under k samples = filter_map (λ s. below_key k s.value s.keys) samples

  -- the sum over the samples whose path begins with the key
  abbrev pub path_cum : List (Seen K) → K → ℤ
  path_cum samples k = sum_where any_path (under k samples)

  -- the sum over the samples whose path is the key alone
  abbrev pub path_flat : List (Seen K) → K → ℤ
  path_flat samples k = sum_where is_end (under k samples)

  -- the order of siblings: by |cum| falling, then by |flat| falling, then by the keys themselves
  abbrev pub sibling_order : List (Seen K) → K → K → Ordering
  sibling_order samples =
      then_cmp (then_cmp (by_size (path_cum samples)) (by_size (path_flat samples))) order

  -- the first keys, each once, as siblings stand
  abbrev pub siblings : List (Seen K) → List K
  siblings samples = each_once (sibling_order samples) (first_keys samples)

  -- the node of the key, below `depth` others
  abbrev pub tree_row : ℕ → List (Seen K) → K → TreeRow K
  tree_row depth samples k =
      record { depth = depth; key = k; flat = path_flat samples k; cum = path_cum samples k }

  -- The nodes of the paths that are left below `depth` keys, parents before children. A path has at most as many keys
  -- as the first number says. Where a node is not kept, neither are those below it.
  abbrev pub rows_below : (TreeRow K → Bool) → ℕ → ℕ → List (Seen K) → List (TreeRow K)
  rows_below keep zero depth samples = []
  rows_below keep (suc most) depth samples =
      flat_map (λ k. if keep (tree_row depth samples k)
      then tree_row depth samples k ∷ rows_below keep most (depth + 1) (under k samples)
      else []) (siblings samples)

  -- the nodes of paths that are kept
  abbrev pub tree_rows : (TreeRow K → Bool) → List (Seen K) → List (TreeRow K)
  tree_rows keep samples = rows_below keep (all_lengths samples) 0 samples

-- any node
abbrev pub any_row : {K : Type 0} → TreeRow K → Bool
any_row row = true

-- The samples that put keys into the report, with their keys root first.
abbrev pub path_samples : Profile → Finders → Config → Option ℕ → List (Seen Written)
path_samples p f config column = map rooted (report_samples p f config column)

-- All nodes of the call tree, parents before children.
abbrev pub tree_nodes : Profile → Finders → Config → Option ℕ → List (TreeRow Written)
tree_nodes p f config column = tree_rows key_cmp any_row (path_samples p f config column)

-- The nodes that are shown: those that are heavy, and that stand below none that is not.
abbrev pub shown_nodes : Profile → Finders → Config → Option ℕ → ℕ → List (TreeRow Written)
shown_nodes p f config column total =
    tree_rows key_cmp (λ row. is_heavy total config.presentation.nodefraction.billionths row.cum)
    (path_samples p f config column)
