-- Tables of tags with their sums, by what was added to them. No public clause cites them.
use Rattle.std.specs.Prelude.{◌≡◌, ℕ, ◌+◌, ◌<◌, ◌≤◌, ◌==◌, ℤ, pos, ◌+ℤ◌, nat_abs, ◌^◌, Bool, List, [], ◌∷◌, ◌++◌, length, map, fold, slice_index_or, slice_set, if◌then◌else◌}
use Rattle.std.specs.List.{filter}
use Rattle.pp_model.specs.declared.profile.Label.{Label}
use Rattle.pp_model.specs.declared.profile.Profile.{Profile}
use Rattle.pp_model.specs.FirstSight.{distinct, place_of}
use Rattle.pp_count.specs.Sums.{Seen}
use Rattle.pp_samples.specs.declared.tag_table.TagSum.{TagSum}
use Rattle.pp_samples.specs.declared.tag_table.TagTable.{TagTable}
use Rattle.pp_samples.specs.declared.key_table.TagKeyTable.{TagKeyTable}
use Rattle.pp_samples.specs.TagLines.{TagTexts, tag_texts, same_tag, has_label_key}
use Rattle.pp_samples.specs.Names.{key_tag}

-- A tag of a sample, with the sample's value and turn.
pub record Event : Type 0 where
  pub tag : TagTexts
  pub value : ℤ
  pub turn : ℕ

-- nothing was added
abbrev pub no_tag_sum : TagSum
no_tag_sum = record { sum = pos 0; size = 0; last = 0 }

-- the sum after one more event: a sample counts once
abbrev pub credited_event : TagSum → Event → TagSum
credited_event s e =
    if s.last == e.turn then s
    else record { sum = s.sum +ℤ e.value; size = s.size + nat_abs e.value; last = e.turn }

-- the sum of these events
abbrev pub sum_of : List Event → TagSum
sum_of events = fold credited_event no_tag_sum events

-- the events of a tag
abbrev pub events_with : TagTexts → List Event → List Event
events_with tag events = filter (λ e. same_tag tag e.tag) events

-- the sum of the tag in a table
abbrev pub tag_sum_at : List TagTexts → List TagSum → TagTexts → TagSum
tag_sum_at names sums tag = slice_index_or sums (place_of same_tag names tag) no_tag_sum

-- The table has the tags of these events, each once, in order of first sight, and the sum of each.
pub record IsTable (events : List Event) (names : List TagTexts) (sums : List TagSum) : Type 0 where
  pub tags : names ≡ distinct same_tag (map (λ e. e.tag) events)
  pub count : length sums ≡ length names
  pub added : (tag : TagTexts) → tag_sum_at names sums tag ≡ sum_of (events_with tag events)

-- the table is that of these events
abbrev pub IsTableOf : List Event → TagTable → Type 0
IsTableOf events table = IsTable events table.names table.sums.items

-- How sums were made to have room for a number: they had it, or one of no sample went last.
pub data Padded (sums padded : List TagSum) (n : ℕ) : Type 0 where
  had : n < length sums → padded ≡ sums → Padded sums padded n
  grew : length sums ≤ n → padded ≡ sums ++ no_tag_sum ∷ [] → Padded sums padded n

-- the event is added to the sum at this place
pub record Credits (sums : List TagSum) (n : ℕ) (e : Event) (new : List TagSum) : Type 0 where
  pub within : n < length sums
  pub is : new ≡ slice_set sums n (credited_event (slice_index_or sums n no_tag_sum) e)

-- the event of the tag's key
abbrev pub key_event : Event → Event
key_event e = record e { tag = key_tag e.tag.key }

-- the events of a key
abbrev pub events_of_key : List ℕ → List Event → List Event
events_of_key key events = filter (λ e. has_label_key key e.tag) events

-- The keys of these events have their sums, and each has the table of its own tags.
pub record AreKeys (events : List Event) (keys : TagKeyTable) : Type 0 where
  pub sums : IsTableOf (map key_event events) keys.keys
  pub count : length keys.tags.items ≡ length keys.keys.names
  pub tables : (key : List ℕ) → (k : ℕ) → (d : TagTable) → k ≡ place_of same_tag keys.keys.names (key_tag key)
      → k < length keys.tags.items → IsTableOf (events_of_key key events) (slice_index_or keys.tags.items k d)
  pub absent : (key : List ℕ) → place_of same_tag keys.keys.names (key_tag key) ≡ length keys.keys.names
      → events_of_key key events ≡ []

-- How tables were made to have room for a number: they had it, or one without tags went last.
pub data Roomed (tables roomed : List TagTable) (n : ℕ) : Type 0 where
  has : n < length tables → roomed ≡ tables → Roomed tables roomed n
  made : (empty : TagTable) → IsTableOf [] empty → length tables ≤ n → roomed ≡ tables ++ empty ∷ [] → Roomed tables roomed n

-- What the events of any tags come to can be added up.
abbrev pub AreSmall : List Event → Type 0
AreSmall events = (q : TagTexts → Bool) → (sum_of (filter (λ e. q e.tag) events)).size < 2 ^ 63

-- the sum after the event fits its type
pub record Fits (s : TagSum) (e : Event) : Type 0 where
  pub within : nat_abs s.sum ≤ s.size
  pub small : (credited_event s e).size < 2 ^ 63

-- the event is added to the table at this place
pub record AddsAt (tables : List TagTable) (n : ℕ) (e : Event) (new : List TagTable) : Type 0 where
  pub within : n < length tables
  pub table : TagTable
  pub is : new ≡ slice_set tables n table
  pub adds : (events : List Event) → (d : TagTable) → IsTableOf events (slice_index_or tables n d)
      → AreSmall (events ++ e ∷ []) → IsTableOf (events ++ e ∷ []) table

-- the events of a sample
abbrev pub sample_events : ℕ → Seen TagTexts → List Event
sample_events turn s = map (λ tag. record { tag = tag; value = s.value; turn = turn }) s.keys

-- the event of a label
abbrev pub label_event : Profile → ℤ → ℕ → Label → Event
label_event p value turn label = record { tag = tag_texts p label; value = value; turn = turn }

-- the events of samples, after one of this turn
abbrev pub events_from : ℕ → List (Seen TagTexts) → List Event
events_from turn [] = []
events_from turn (s ∷ samples) = sample_events (turn + 1) s ++ events_from (turn + 1) samples
