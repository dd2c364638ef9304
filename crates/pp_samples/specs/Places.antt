-- The places of tags in the tables of keys. No public clause cites them.
use Rattle.std.specs.Prelude.{◌≡◌, ℕ, ◌<◌, List, All, length, slice_index_or, slice_set}
use Rattle.pp_model.specs.FirstSight.{seen_with, place_of}
use Rattle.pp_samples.specs.declared.tag_table.TagTable.{TagTable}
use Rattle.pp_samples.specs.declared.key_table.TagKeyTable.{TagKeyTable}
use Rattle.pp_samples.specs.declared.key_table.TagPlace.{TagPlace}
use Rattle.pp_samples.specs.TagLines.{TagTexts, same_tag}
use Rattle.pp_samples.specs.Names.{key_tag}

-- there is a sum for each tag
abbrev pub IsEven : TagTable → Type 0
IsEven table = length table.sums.items ≡ length table.names

-- each of the tables has a sum for each of its tags
abbrev pub EachEven : List TagTable → Type 0
EachEven tables = All IsEven tables

-- There is a sum and a table for each key, and a sum for each tag.
pub record AreEven (keys : TagKeyTable) : Type 0 where
  pub sums : IsEven keys.keys
  pub count : length keys.tags.items ≡ length keys.keys.names
  pub tables : EachEven keys.tags.items

-- The table at the place has the tag, which has this number there.
pub record Renames (tables : List TagTable) (n : ℕ) (tag : TagTexts) (t : ℕ) (new : List TagTable) : Type 0 where
  pub table : TagTable
  pub is : new ≡ slice_set tables n table
  pub even : IsEven table
  pub number : (d : TagTable) → t ≡ place_of same_tag (slice_index_or tables n d).names tag
  pub names : (d : TagTable) → table.names ≡ seen_with same_tag (slice_index_or tables n d).names tag

-- the tables have something at the place
pub record IsPlaceIn (keys : TagKeyTable) (place : TagPlace) : Type 0 where
  pub key : place.key < length keys.keys.names
  pub tag : (d : TagTable) → place.tag < length (slice_index_or keys.tags.items place.key d).names

-- The place is the tag's: by the number of its key, and by its own in the table of that key.
pub record HasTagPlace (keys : TagKeyTable) (tag : TagTexts) (place : TagPlace) : Type 0 where
  pub inside : IsPlaceIn keys place
  pub key : place.key ≡ place_of same_tag keys.keys.names (key_tag tag.key)
  pub own : (d : TagTable) → place.tag ≡ place_of same_tag (slice_index_or keys.tags.items place.key d).names tag

-- each tag that has its place keeps it
abbrev pub KeepsTagPlaces : TagKeyTable → TagKeyTable → Type 0
KeepsTagPlaces old new = (tag : TagTexts) → (place : TagPlace) → HasTagPlace old tag place → HasTagPlace new tag place
