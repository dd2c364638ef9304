-- The branches of paths as the code holds them. No public clause cites it.
use Rattle.std.specs.Prelude.{◌≡◌, ℕ, suc, ◌+◌, ◌≤◌, nat_eq, ℤ, List, [], ◌∷◌, ◌++◌, map, All, MatchOption}
use Rattle.std.specs.List.{list_any, slice_get, sum_by, IsDistinct}
use Rattle.std.specs.Ordering.{nat_cmp, eq_by_cmp}
use Rattle.pp_count.specs.Sums.{Seen, sum_where}
use Rattle.pp_calltree.specs.declared.branch.Branch.{Branch}
use Rattle.pp_calltree.specs.declared.path.Path.{Path}
use Rattle.pp_calltree.specs.CallTree.{all_lengths, any_path, is_end, first_keys, under, path_cum, path_flat}
use Rattle.pp_calltree.specs.Paths.{below, IsRising}

-- What a branch says: its depth, its key number, its sums, and the samples below it.
pub record Said : Type 0 where
  pub depth : ℕ
  pub key : ℕ
  pub flat : ℤ
  pub cum : ℤ
  pub samples : List (Seen ℕ)

-- what is left of a branch's paths below its key
abbrev pub branch_samples : Branch → List (Seen ℕ)
branch_samples b = below (b.depth + 1) b.paths.now

-- what this one says
abbrev pub branch_said : Branch → Said
branch_said b =
    record { depth = b.depth; key = b.key; flat = b.flat; cum = b.cum; samples = branch_samples b }

-- what the branch of the key says, over samples below `depth` keys
abbrev pub branch_of : ℕ → List (Seen ℕ) → ℕ → Said
branch_of depth samples k = record {
  depth = depth;
  key = k;
  flat = path_flat nat_cmp samples k;
  cum = path_cum nat_cmp samples k;
  samples = under nat_cmp k samples;
}

-- The list has the branches of these samples below `depth` keys, each once.
pub record AreBranches (depth : ℕ) (samples : List (Seen ℕ)) (list : List Branch) : Type 0 where
  pub said_are : All (λ b. branch_said b ≡ branch_of depth samples b.key) list
  pub present : (m : ℕ) → list_any (nat_eq m) (map (λ b. b.key) list)
      ≡ list_any (eq_by_cmp nat_cmp m) (first_keys samples)
  pub distinct : IsDistinct nat_eq (map (λ b. b.key) list)

-- more than the nodes at a branch and below it
abbrev pub weight : Branch → ℕ
weight b = suc (all_lengths (branch_samples b))

-- They are the branches of samples whose paths are in order, and so are those below them.
pub record AreOrdered (depth : ℕ) (samples : List (Seen ℕ)) (list : List Branch) : Type 0 where
  pub are : AreBranches depth samples list
  pub rise : All (λ b. IsRising (branch_samples b)) list
  pub lighter : sum_by weight list ≤ all_lengths samples

-- the branches of what is left of these paths below `depth` keys
abbrev pub HasBranches : ℕ → List Path → List Branch → Type 0
HasBranches depth paths list = AreOrdered depth (below depth paths) list

-- The branch is that of the key, over the paths that have it below `depth` others.
pub record IsBranchOf (depth key : ℕ) (run : List Path) (b : Branch) : Type 0 where
  pub depth_is : b.depth ≡ depth
  pub key_is : b.key ≡ key
  pub flat_is : b.flat ≡ sum_where is_end (below (depth + 1) run)
  pub cum_is : b.cum ≡ sum_where any_path (below (depth + 1) run)
  pub paths_are : b.paths.now ≡ run

-- The branch of the key is added at the end.
pub record GainsBranch (depth key : ℕ) (run : List Path) (old new : List Branch) : Type 0 where
  pub branch : Branch
  pub is : IsBranchOf depth key run branch
  pub added : new ≡ old ++ branch ∷ []

-- The branch of a run is added at the end, if its first path has a key below `depth` others.
abbrev pub IsStep : ℕ → List Path → List Branch → List Branch → Type 0
IsStep depth [] old new = new ≡ old
IsStep depth (first ∷ run) old new =
    MatchOption (slice_get first.keys.now depth) (new ≡ old)
    (λ key. GainsBranch depth key (first ∷ run) old new)
