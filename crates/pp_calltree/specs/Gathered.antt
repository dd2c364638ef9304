-- The paths of all samples of a report, as they are gathered for its call tree. Of it, public clauses cite `IsScopeOf`.
use Rattle.std.specs.Prelude.{◌≡◌, ℕ, List, length, Option}
use Rattle.std.specs.List.{sum_by}
use Rattle.pp_model.specs.declared.config.Config.{Config}
use Rattle.pp_model.specs.declared.loaded.Loaded.{Loaded}
use Rattle.pp_model.specs.declared.verdicts.Verdicts.{Verdicts}
use Rattle.pp_model.specs.Finders.{Finders}
use Rattle.pp_count.specs.declared.scope.Scope.{Scope}
use Rattle.pp_count.specs.Scope.{profile_in_scope, config_of, samples_in_scope, AreCountable, IsSoundScope}
use Rattle.pp_count.specs.Seeing.{HoldsFilters, seen_samples}
use Rattle.pp_count.specs.Sums.{Seen}
use Rattle.pp_calltree.specs.declared.path.PathPart.{PathPart}
use Rattle.pp_calltree.specs.declared.paths.Paths.{Paths}
use Rattle.pp_calltree.specs.CallTree.{all_lengths, path_samples}
use Rattle.pp_calltree.specs.Laid.{written_out, HasRoom}
use Rattle.pp_calltree.specs.Paths.{parts_of}

-- The scope is of this profile with its verdicts, and of this column.
pub record IsScopeOf (l : Loaded) (v : Verdicts) (config : Config) (column : Option ℕ)
    (scope : Scope) : Type 0 where
  pub l_is : scope.l.now ≡ l
  pub v_is : scope.v.now ≡ v
  pub config_is : config_of scope ≡ config
  pub column_is : scope.column ≡ column

-- The scope chooses the samples that the filters leave, whose values can be added up.
pub record ChoosesKept (scope : Scope) : Type 0 where
  pub sound : IsSoundScope scope
  pub countable : AreCountable scope (samples_in_scope scope)
  pub all : (f : Finders) → HoldsFilters scope.l.now scope.v.now scope.config.now.filtering f
      → seen_samples (profile_in_scope scope) f (config_of scope) scope.column (samples_in_scope scope)
      ≡ seen_samples (profile_in_scope scope) f (config_of scope) scope.column (profile_in_scope scope).sample

-- the samples of the paths, by key numbers
abbrev pub samples_of_paths : Paths → List (Seen ℕ)
samples_of_paths paths = parts_of paths.keys.items paths.parts.items

-- The paths are those of the report's samples, and can be laid out.
pub record AreGathered (scope : Scope) (paths : Paths) : Type 0 where
  pub sound : IsSoundScope scope
  pub whole : sum_by (λ (s : PathPart). s.len) paths.parts.items ≡ length paths.keys.items
  pub room : HasRoom scope.table.now.names (all_lengths (samples_of_paths paths)) (samples_of_paths paths)
  pub are : (f : Finders) → HoldsFilters scope.l.now scope.v.now scope.config.now.filtering f
      → written_out (profile_in_scope scope) scope.table.now.names (samples_of_paths paths)
      ≡ path_samples (profile_in_scope scope) f (config_of scope) scope.column
