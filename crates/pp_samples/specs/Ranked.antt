-- The lines of tags as the code holds them. No public clause cites them.
use Rattle.std.specs.Prelude.{◌≡◌, ℕ, ◌<◌, nat_abs, List, [], length, map, slice_index_or}
use Rattle.std.specs.Ordering.{nat_cmp, ordering_then}
use Rattle.std.specs.declared.cmp.Ordering.{Ordering}
use Rattle.pp_units.specs.Shown.{Shown}
use Rattle.pp_model.specs.FirstSight.{distinct, place_of}
use Rattle.pp_count.specs.Sums.{Seen}
use Rattle.pp_samples.specs.declared.tag_table.TagSum.{TagSum}
use Rattle.pp_samples.specs.declared.tag_table.TagTable.{TagTable}
use Rattle.pp_samples.specs.declared.tag_lines.TagLine.{TagLine}
use Rattle.pp_samples.specs.TagLines.{TagTexts, same_tag, bytes_cmp, value_line, key_sum, key_size}
use Rattle.pp_samples.specs.Names.{name_texts, key_tag, tag_value_cmp}
use Rattle.pp_samples.specs.Tables.{Event, IsTableOf, sum_of, events_with, events_of_key, events_from}

-- A tag with its sum, and its number in its table.
pub record RankedTag : Type 0 where
  pub tag : TagTexts
  pub sum : TagSum
  pub number : ℕ

-- what the line says
abbrev pub line_entry : TagLine → RankedTag
line_entry line = record { tag = name_texts line.name.now; sum = line.sum; number = line.number }

-- the key of the line
abbrev pub line_key : TagLine → List ℕ
line_key line = line.name.now.key.now

-- the empty tag, for where there is none
abbrev pub no_tag : TagTexts
no_tag = key_tag []

-- the tags of these events, each once
abbrev pub table_tags : List Event → List TagTexts
table_tags events = distinct same_tag (map (λ e. e.tag) events)

-- what the table of these events says of the tag
abbrev pub event_entry : List Event → TagTexts → RankedTag
event_entry events tag = record {
  tag = tag;
  sum = sum_of (events_with tag events);
  number = place_of same_tag (table_tags events) tag;
}

-- keys by their bytes
abbrev pub line_key_cmp : TagLine → TagLine → Ordering
line_key_cmp a b = bytes_cmp (line_key a) (line_key b)

-- the greater absolute sum first, then by value
abbrev pub entry_cmp : RankedTag → RankedTag → Ordering
entry_cmp a b =
    ordering_then (nat_cmp (nat_abs b.sum.sum) (nat_abs a.sum.sum)) (tag_value_cmp a.tag b.tag)

-- the line of a tag, of a key of this size
abbrev pub entry_line : Shown → ℕ → RankedTag → List ℕ
entry_line unit size entry = value_line unit size entry.sum.sum entry.tag

-- The line has the sums of its key, and the table of its number has the key's tags.
pub record IsKeyLine (samples : List (Seen TagTexts)) (tables : List TagTable) (line : TagLine) : Type 0 where
  pub sum : line.sum.sum ≡ key_sum samples (line_key line)
  pub size : line.sum.size ≡ key_size samples (line_key line)
  pub within : line.number < length tables
  pub table : (d : TagTable) → IsTableOf (events_of_key (line_key line) (events_from 0 samples)) (slice_index_or tables line.number d)
