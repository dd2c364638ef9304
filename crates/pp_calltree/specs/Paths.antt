-- The paths of samples as the code holds them. No public clause cites it.
use Rattle.std.specs.Prelude.{◌≡◌, ℕ, suc, ◌==◌, Bool, false, ℤ, pos, List, [], ◌∷◌, length, take, drop, map, if◌then◌else◌}
use Rattle.std.specs.Cmp.Lexicographic.{slice_cmp}
use Rattle.std.specs.List.{AllByRecursion, slice_get, sum_by}
use Rattle.std.specs.Option.{option_map_or}
use Rattle.std.specs.Ordering.{int_eq, is_lt, nat_cmp}
use Rattle.std.specs.declared.cmp.Ordering.{Ordering}
use Rattle.pp_model.specs.declared.profile.Sample.{Sample}
use Rattle.pp_count.specs.declared.scope.Scope.{Scope}
use Rattle.pp_count.specs.Sums.{Seen, weighed}
use Rattle.pp_count.specs.Scope.{AreSeen}
use Rattle.pp_calltree.specs.declared.path.PathPart.{PathPart}
use Rattle.pp_calltree.specs.declared.path.Path.{Path}
use Rattle.pp_calltree.specs.declared.paths.Paths.{Paths}
use Rattle.pp_calltree.specs.CallTree.{rooted}

-- the sample with its keys root first, unless its value is 0
abbrev pub rooted_if : ℤ → List ℕ → List (Seen ℕ)
rooted_if value keys =
    if int_eq value (pos 0) then [] else rooted (record { value = value; keys = keys }) ∷ []

-- the samples that have these parts of the keys
abbrev pub parts_of : List ℕ → List PathPart → List (Seen ℕ)
parts_of keys [] = []
parts_of keys (s ∷ parts) =
    record { value = s.value; keys = take s.len keys } ∷ parts_of (drop s.len keys) parts

-- The parts are those of the samples, and no key is left.
pub record AreKeptAs (paths : Paths) (samples : List (Seen ℕ)) : Type 0 where
  pub are : parts_of paths.keys.items paths.parts.items ≡ samples
  pub whole : sum_by (λ (s : PathPart). s.len) paths.parts.items ≡ length paths.keys.items

-- The paths are those of what the report sees of the samples, by key numbers.
pub record HasPaths (scope : Scope) (samples : List Sample) (paths : Paths) : Type 0 where
  pub seen : List (Seen ℕ)
  pub are : AreSeen scope samples seen
  pub stands : AreKeptAs paths (map rooted (weighed seen))

-- the sample of a path
abbrev pub path_of : Path → Seen ℕ
path_of path = record { value = path.value; keys = path.keys.now }

-- the order of paths
abbrev pub path_cmp : Path → Path → Ordering
path_cmp a b = slice_cmp nat_cmp a.keys.now b.keys.now

-- what is left of the path below `depth` keys
abbrev pub path_below : ℕ → Path → Seen ℕ
path_below depth path = record { value = path.value; keys = drop depth path.keys.now }

-- what is left of the paths
abbrev pub below : ℕ → List Path → List (Seen ℕ)
below depth paths = map (path_below depth) paths

-- the path has this key below `depth` others
abbrev pub has_key_below : ℕ → ℕ → Path → Bool
has_key_below depth key path = option_map_or (λ other. other == key) (slice_get path.keys.now depth) false

-- its value, where it has no key below `depth` others
abbrev pub own_path_value : ℕ → Path → ℤ
own_path_value depth path = option_map_or (λ key. pos 0) (slice_get path.keys.now depth) path.value

-- how many items, from the first on, pass a test
abbrev pub run_length : {X : Type 0} → (X → Bool) → List X → ℕ
run_length test [] = 0
run_length test (x ∷ xs) = if test x then suc (run_length test xs) else 0

-- how many paths, from the first on, have the key that it has below `depth` others, and 1 where it has none
abbrev pub first_run : ℕ → List Path → ℕ
first_run depth [] = 0
first_run depth (first ∷ paths) =
    option_map_or (λ key. run_length (has_key_below depth key) (first ∷ paths)) (slice_get first.keys.now depth) 1

-- none of the samples' paths stands before these keys
abbrev pub NoneBefore : List ℕ → List (Seen ℕ) → Type 0
NoneBefore keys samples = AllByRecursion (λ s. is_lt (slice_cmp nat_cmp s.keys keys) ≡ false) samples

-- No path stands before one to its left.
abbrev pub IsRising : List (Seen ℕ) → Type 0
IsRising [] = Unit {0}
IsRising (s ∷ samples) = NoneBefore s.keys samples × IsRising samples
