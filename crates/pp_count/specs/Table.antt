-- The key numbers of the lines of each location.
use Rattle.std.specs.Prelude.{◌≡◌, ℕ, ◌<◌, Bool, pos, List, [], length, map, slice_index_or, All, AllPairs, ◌≢◌}
use Rattle.pp_base.specs.Front.{IsFront}
use Rattle.pp_model.specs.declared.grouping.Grain.{Grain}
use Rattle.pp_model.specs.declared.profile.Profile.{Profile}
use Rattle.pp_model.specs.declared.grouping.Grouping.{Grouping}
use Rattle.pp_model.specs.Frames.{rows, lines_at}
use Rattle.pp_model.specs.FrameTexts.{Written, written}
use Rattle.pp_grain.specs.declared.key.Key.{Key}
use Rattle.pp_grain.specs.Keys.{key_texts, key_written, IsKeyOf}
use Rattle.pp_count.specs.declared.table.KeyTable.{KeyTable}

-- a key of which nothing is known
abbrev pub no_key : Key
no_key = record { function = 0; file = 0; line = pos 0; column = pos 0; address = 0; object = 0 }

-- the key of the number
abbrev pub key_numbered : List Key → ℕ → Key
key_numbered names n = slice_index_or names n no_key

-- what the key of the number stands for
abbrev pub written_key : Profile → List Key → ℕ → Written
written_key p names n = key_written p (slice_index_or names n no_key)

-- the numbers are those of the frames' keys, in order
pub record IsNumbered (grain : Grain) (showcolumns : Bool) (p : Profile) (names : List Key)
    (frames : List Written) (row : List ℕ) : Type 0 where
  pub keys : map (written_key p names) row ≡ map (key_texts grain showcolumns) frames
  pub below : All (λ n. n < length names) row

-- the frames of the location at the place, written out
abbrev pub frames_at : Profile → ℕ → List Written
frames_at p location = map (written p) (rows 0 location (lines_at p location))

-- the numbers of the keys of the location's lines, or of its one frame where it has none
abbrev pub IsRow : Grain → Bool → Profile → List Key → ℕ → List ℕ → Type 0
IsRow grain showcolumns p names location row =
    IsNumbered grain showcolumns p names (frames_at p location) row

-- The names so far keep their numbers, and each is a key of the profile if each was.
pub record Grown (p : Profile) (old new : List Key) : Type 0 where
  pub front : IsFront old new
  pub keys : All (IsKeyOf p) old → All (IsKeyOf p) new

-- Each location has its row, in the order of the table. Each name is a key of the profile, and no two are the same.
pub record AreRows (grain : Grain) (showcolumns : Bool) (p : Profile) (names : List Key)
    (rows : List (List ℕ)) : Type 0 where
  pub count : length rows ≡ length p.location
  pub each : (k : ℕ) → k < length rows
      → IsRow grain showcolumns p names k (slice_index_or rows k [])
  pub keys : All (IsKeyOf p) names
  pub distinct : AllPairs (λ a b. a ≢ b) names

-- The table has the key number of each line of each location, by the configuration's grain.
abbrev pub IsKeyTable : Profile → Grouping → KeyTable → Type 0
IsKeyTable p grouping table =
    AreRows grouping.grain grouping.showcolumns p table.names table.location
