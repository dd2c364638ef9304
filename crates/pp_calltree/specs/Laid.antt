-- Nodes with their keys written out, which public clauses cite (`node_row`), and how nodes are laid out.
use Rattle.std.specs.Prelude.{◌≡◌, ℕ, ◌+◌, ◌-◌, ◌<◌, ◌≤◌, ◌^◌, List, ◌∷◌, length, map, All}
use Rattle.std.specs.Ordering.{nat_cmp, eq_by_cmp}
use Rattle.pp_model.specs.declared.profile.Profile.{Profile}
use Rattle.pp_model.specs.FrameTexts.{Written}
use Rattle.pp_grain.specs.declared.key.Key.{Key}
use Rattle.pp_grain.specs.Keys.{key_cmp, key_written}
use Rattle.pp_count.specs.Sums.{Seen, absolute, renamed, sum_where}
use Rattle.pp_count.specs.Parts.{HasBelow}
use Rattle.pp_count.specs.Table.{written_key}
use Rattle.pp_calltree.specs.declared.branch.Branch.{Branch}
use Rattle.pp_calltree.specs.declared.texts.NameTexts.{NameTexts}
use Rattle.pp_calltree.specs.declared.tree.PathNode.{PathNode}
use Rattle.pp_calltree.specs.Branches.{branch_samples}
use Rattle.pp_calltree.specs.CallTree.{TreeRow, any_row, is_end, rows_below}
use Rattle.pp_calltree.specs.Paths.{IsRising}
use Rattle.pp_calltree.specs.Siblings.{texts_at}

-- the node, with its key written out
abbrev pub node_row : Profile → PathNode → TreeRow Written
node_row p n =
    record { depth = n.depth; key = key_written p n.key; flat = n.flat; cum = n.cum }

-- the samples with their keys written out
abbrev pub written_out : Profile → List Key → List (Seen ℕ) → List (Seen Written)
written_out p names samples = map (renamed (written_key p names)) samples

-- the node of a branch
abbrev pub branch_row : Profile → List Key → Branch → TreeRow Written
branch_row p names b =
    record { depth = b.depth; key = written_key p names b.key; flat = b.flat; cum = b.cum }

-- the nodes of a branch, its own first, where no path has more keys than this in all
abbrev pub whole_branch : Profile → List Key → ℕ → Branch → List (TreeRow Written)
whole_branch p names most b =
    branch_row p names b
    ∷ rows_below key_cmp any_row (most - (b.depth + 1)) (b.depth + 1)
    (written_out p names (branch_samples b))

-- Different numbers are different keys, and the texts are those of the names.
pub record CanLay (p : Profile) (names : List Key) (texts : NameTexts) : Type 0 where
  pub apart : (a b : ℕ) → a < length names → b < length names
      → eq_by_cmp key_cmp (written_key p names a) (written_key p names b) ≡ eq_by_cmp nat_cmp a b
  pub texts_are : (k : ℕ) → k < length names → texts_at texts k ≡ written_key p names k

-- The keys of the samples are numbers of names, no path has more of them than this, and the values can be added up.
pub record HasRoom (names : List Key) (most : ℕ) (samples : List (Seen ℕ)) : Type 0 where
  pub below : All (HasBelow (length names)) samples
  pub short : All (λ s. length s.keys ≤ most) samples
  pub fits : absolute samples < 2 ^ 63

-- The branch can be laid out.
pub record IsLayable (names : List Key) (most : ℕ) (b : Branch) : Type 0 where
  pub depth_fits : b.depth < most
  pub key_below : b.key < length names
  pub room : HasRoom names (most - (b.depth + 1)) (branch_samples b)
  pub flat_is : b.flat ≡ sum_where is_end (branch_samples b)
  pub rises : IsRising (branch_samples b)
