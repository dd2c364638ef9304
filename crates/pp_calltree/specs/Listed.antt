-- Paths of a call tree that are listed branch by branch, without its nodes. No public clause cites it.
use Rattle.std.specs.Prelude.{◌≡◌, ℕ, ◌+◌, ◌-◌, ◌<◌, pos, List, [], ◌∷◌, ◌++◌, length, take, map, reverse, All, if◌then◌else◌}
use Rattle.std.specs.List.{filter, flat_map, sum_by}
use Rattle.std.specs.List.Sorted.{IsSorted}
use Rattle.std.specs.Ordering.{int_eq}
use Rattle.pp_model.specs.declared.profile.Profile.{Profile}
use Rattle.pp_model.specs.FrameTexts.{Written}
use Rattle.pp_grain.specs.declared.key.Key.{Key}
use Rattle.pp_grain.specs.Keys.{key_cmp}
use Rattle.pp_count.specs.Table.{written_key}
use Rattle.pp_calltree.specs.declared.branch.Branch.{Branch}
use Rattle.pp_calltree.specs.declared.listing.PathSum.{PathSum}
use Rattle.pp_calltree.specs.declared.path.Path.{Path}
use Rattle.pp_calltree.specs.declared.texts.NameTexts.{NameTexts}
use Rattle.pp_calltree.specs.Branches.{branch_samples, weight, HasBranches}
use Rattle.pp_calltree.specs.CallPaths.{CallPath, has_sum, path_written, paths_below}
use Rattle.pp_calltree.specs.Laid.{written_out, IsLayable}
use Rattle.pp_calltree.specs.Siblings.{branch_cmp}

-- the path begins with these keys
abbrev pub BeginsWith : List ℕ → Path → Type 0
BeginsWith above path = take (length above) path.keys.now ≡ above

-- Some paths go through the branch, and all of them by these keys and then its own.
pub record GoesOnFrom (above : List ℕ) (b : Branch) : Type 0 where
  pub some : 0 < length b.paths.now
  pub begin : All (BeginsWith (above ++ b.key ∷ [])) b.paths.now

-- Where all paths begin with the same `depth` keys, the branches go on from there.
abbrev pub GoOn : ℕ → List Path → List Branch → Type 0
GoOn depth paths branches =
    (above : List ℕ) → length above ≡ depth → All (BeginsWith above) paths
    → All (GoesOnFrom above) branches

-- The branches of the paths below `depth` keys are added as siblings stand, the last of them first.
pub record AddsBranches (texts : NameTexts) (depth : ℕ) (paths : List Path) (old new : List Branch)
    : Type 0 where
  pub branches : List Branch
  pub added : new ≡ old ++ reverse branches
  pub are : HasBranches depth paths branches
  pub sorted : IsSorted (branch_cmp texts) branches
  pub go_on : GoOn depth paths branches

-- the keys of the first path
abbrev pub first_path : List Path → List ℕ
first_path [] = []
first_path (path ∷ _) = path.keys.now

-- the keys from the root to the branch's own
abbrev pub trail : Branch → List ℕ
trail b = take (b.depth + 1) (first_path b.paths.now)

-- All paths that go through the branch begin with its trail, whose keys are numbers below this one.
pub record IsTrailed (n : ℕ) (b : Branch) : Type 0 where
  pub long : length (trail b) ≡ b.depth + 1
  pub begin : All (BeginsWith (trail b)) b.paths.now
  pub below : All (λ k. k < n) (trail b)

-- The branch can be laid out, and all its paths begin with its trail.
pub record IsListable (names : List Key) (most : ℕ) (b : Branch) : Type 0 where
  pub layable : IsLayable names most b
  pub trailed : IsTrailed (length names) b

-- the path of the branch and those that go on from it, where no path has more keys than this in all
abbrev pub branch_paths : Profile → List Key → ℕ → Branch → List (CallPath Written)
branch_paths p names most b =
    record { keys = map (written_key p names) (trail b); sum = b.flat }
    ∷ paths_below key_cmp (most - (b.depth + 1)) (map (written_key p names) (trail b))
    (written_out p names (branch_samples b))

-- those of branches, one after the other, whose sums aren't 0
abbrev pub summed_paths : Profile → List Key → ℕ → List Branch → List (CallPath Written)
summed_paths p names most branches = filter has_sum (flat_map (branch_paths p names most) branches)

-- the path, unless its sum is 0
abbrev pub unless_zero : PathSum → List PathSum
unless_zero path = if int_eq path.sum (pos 0) then [] else path ∷ []

-- the keys of the path are numbers below this one
abbrev pub HasNumbersBelow : ℕ → PathSum → Type 0
HasNumbersBelow n path = All (λ k. k < n) path.keys.now

-- In the place of the branch, paths are listed and branches wait, the last of them first.
pub record PassesOn (p : Profile) (names : List Key) (most : ℕ) (b : Branch)
    (old new : List Branch) (before after : List PathSum) : Type 0 where
  pub listed : List PathSum
  pub branches : List Branch
  pub lists : after ≡ before ++ listed
  pub added : new ≡ old ++ reverse branches
  pub paths : map (path_written p names) listed ++ summed_paths p names most branches
      ≡ summed_paths p names most (b ∷ [])
  pub listable : All (IsListable names most) branches
  pub below : All (HasNumbersBelow (length names)) listed
  pub lighter : sum_by weight branches < weight b
