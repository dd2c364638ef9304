-- The paths of a call tree from its roots, and what the samples that end there come to.
use Rattle.std.specs.Prelude.{◌≡◌, ℕ, zero, suc, ℤ, pos, Bool, not, List, [], ◌∷◌, ◌++◌, map, All, Option}
use Rattle.std.specs.List.{filter, flat_map}
use Rattle.std.specs.Ordering.{int_eq}
use Rattle.std.specs.declared.cmp.Ordering.{Ordering}
use Rattle.pp_model.specs.declared.config.Config.{Config}
use Rattle.pp_model.specs.declared.loaded.Loaded.{Loaded}
use Rattle.pp_model.specs.declared.profile.Profile.{Profile}
use Rattle.pp_model.specs.declared.verdicts.Verdicts.{Verdicts}
use Rattle.pp_model.specs.Finders.{Finders}
use Rattle.pp_model.specs.FrameTexts.{Written}
use Rattle.pp_grain.specs.declared.key.Key.{Key}
use Rattle.pp_grain.specs.Keys.{key_cmp, IsKeyOf}
use Rattle.pp_count.specs.Seeing.{HoldsFilters}
use Rattle.pp_count.specs.Sums.{Seen}
use Rattle.pp_count.specs.Table.{key_numbered, written_key}
use Rattle.pp_calltree.specs.declared.listing.PathSum.{PathSum}
use Rattle.pp_calltree.specs.CallTree.{under, path_flat, siblings, all_lengths, path_samples}

-- A path from the root of the call tree, and the sum over the samples whose path it is.
pub record CallPath (K : Type 0) : Type 0 where
  -- root first
  pub keys : List K
  pub sum : ℤ

module _ {K : Type 0} (order : K → K → Ordering) where
  -- the path that goes on by the key from the one above
  abbrev pub path_by : List K → List (Seen K) → K → CallPath K
  path_by above samples k = record { keys = above ++ k ∷ []; sum = path_flat order samples k }

  -- The paths that go on from the one above, where these samples have what is left of theirs: parents before children,
  -- and siblings as in the call tree, with as many more keys as the number says at most.
  abbrev pub paths_below : ℕ → List K → List (Seen K) → List (CallPath K)
  paths_below zero above samples = []
  paths_below (suc most) above samples =
      flat_map (λ k. path_by above samples k
      ∷ paths_below most (above ++ k ∷ []) (under order k samples)) (siblings order samples)

  -- all paths of the samples, whose keys are root first
  abbrev pub all_paths : List (Seen K) → List (CallPath K)
  all_paths samples = paths_below (all_lengths samples) [] samples

-- its sum isn't 0
abbrev pub has_sum : {K : Type 0} → CallPath K → Bool
has_sum path = not (int_eq path.sum (pos 0))

-- The paths of a report, root first, as the call tree has its nodes.
abbrev pub report_paths : Profile → Finders → Config → Option ℕ → List (CallPath Written)
report_paths p f config column = all_paths key_cmp (path_samples p f config column)

-- the path, with its keys written out
abbrev pub path_written : Profile → List Key → PathSum → CallPath Written
path_written p names path =
    record { keys = map (written_key p names) path.keys.now; sum = path.sum }

-- its keys are keys of the profile
abbrev pub HasKeysOf : Profile → List Key → PathSum → Type 0
HasKeysOf p names path = All (λ k. IsKeyOf p (key_numbered names k)) path.keys.now

-- The paths are those of the report whose sums aren't 0. All keys are keys of the profile.
pub record ArePathsOf (l : Loaded) (v : Verdicts) (config : Config) (column : Option ℕ)
    (names : List Key) (paths : List PathSum) : Type 0 where
  pub are : (f : Finders) → HoldsFilters l v config.filtering f
      → map (path_written l.profile names) paths
      ≡ filter has_sum (report_paths l.profile f config column)
  pub keys : All (HasKeysOf l.profile names) paths
