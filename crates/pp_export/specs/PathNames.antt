-- The names of keys as they stand in paths, all in one text, as the code holds them. No public clause cites it.
use Rattle.std.specs.Prelude.{◌≡◌, ℕ, ◌+◌, ◌<◌, ◌≤◌, List, [], ◌∷◌, ◌++◌, length, take, drop, slice_index_or}
use Rattle.pp_model.specs.declared.profile.Profile.{Profile}
use Rattle.pp_model.specs.FrameTexts.{Written}
use Rattle.pp_grain.specs.declared.key.Key.{Key}
use Rattle.pp_grain.specs.Naming.{name_text}
use Rattle.pp_count.specs.Table.{written_key}
use Rattle.pp_export.specs.declared.path_names.NamePlace.{NamePlace}
use Rattle.pp_export.specs.declared.path_names.PathNames.{PathNames}
use Rattle.pp_export.specs.Escaped.{semicolon, escaped_name}

-- no name stands there
abbrev pub no_name_place : NamePlace
no_name_place = record { start = 0; len = 0 }

-- the bytes at the place
abbrev pub at_place : List ℕ → NamePlace → List ℕ
at_place text place = take place.len (drop place.start text)

-- These bytes stand at the place.
pub record NameStandsAt (text : List ℕ) (place : NamePlace) (bytes : List ℕ) : Type 0 where
  pub within : place.start + place.len ≤ length text
  pub are : at_place text place ≡ bytes

-- where the name of the number stands
abbrev pub name_place : PathNames → ℕ → NamePlace
name_place path_names number = slice_index_or path_names.places.items number no_name_place

-- a key's name in a path
abbrev pub path_name : Written → List ℕ
path_name k = escaped_name (name_text k)

-- the name of the key with the number
abbrev pub numbered_name : Profile → List Key → ℕ → List ℕ
numbered_name p names number = path_name (written_key p names number)

-- the name with a `;` behind it
abbrev pub name_and_separator : List ℕ → List ℕ
name_and_separator name = name ++ semicolon ∷ []

-- What is made are the names of the numbers.
pub record ArePathNames (name : ℕ → List ℕ) (path_names : PathNames) : Type 0 where
  pub made : (number : ℕ) → 0 < (name_place path_names number).len
      → NameStandsAt path_names.text.items (name_place path_names number) (name_and_separator (name number))

-- The name of the number stands at the place.
pub record GivesName (name : ℕ → List ℕ) (number : ℕ) (path_names : PathNames) (place : NamePlace) : Type 0
  where
    pub names : ArePathNames name path_names
    pub own : NameStandsAt path_names.text.items place (name_and_separator (name number))
