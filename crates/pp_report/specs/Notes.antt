-- The notes of a report: a line for each option that is in force and matches nothing.
use Rattle.std.specs.Prelude.{ℕ, ◌==◌, Bool, true, ◌||◌, List, [], ◌++◌, length, codes, slice_index_or, if◌then◌else◌}
use Rattle.pp_model.specs.declared.profile.Profile.{Profile}
use Rattle.pp_model.specs.declared.verdicts.Slot.{Slot}
use Rattle.pp_model.specs.declared.verdicts.Slot.TheVariants as slots
use Rattle.pp_model.specs.declared.filtering.Filtering.{Filtering}
use Rattle.pp_model.specs.Finders.{Finders}
use Rattle.pp_model.specs.ReportFacts.{variable_name}
use Rattle.pp_count.specs.Matches.{matches_of}

-- the line on an option without a match
abbrev pub note : List ℕ → List ℕ
note option = codes "pprof: " ++ option ++ codes " matched no samples\n"

-- the place of a slot in their order
abbrev pub place_of : Slot → ℕ
place_of slots.Focus = 0
place_of slots.Ignore = 1
place_of slots.Hide = 2
place_of slots.Show = 3
place_of slots.ShowFrom = 4
place_of slots.TagFocus = 5
place_of slots.TagIgnore = 6
place_of slots.PruneFrom = 7
place_of slots.TagShow = 8
place_of slots.TagHide = 9
place_of slots.Own = 10

-- the option of the slot has a match
abbrev pub has_match : List Bool → Slot → Bool
has_match matched slot = slice_index_or matched (place_of slot) true

-- the note on the variable of this slot and value, where it isn't empty and has no match
unfoldable pub note_unless : List Bool → Slot → List ℕ → List ℕ
note_unless matched slot value =
    if length value == 0 || has_match matched slot then [] else note (variable_name slot)

-- the notes on the patterns of frames, by which options match
abbrev pub frame_notes : Filtering → List Bool → List ℕ
frame_notes filtering matched =
    note_unless matched slots.Focus filtering.focus
    ++ note_unless matched slots.Ignore filtering.ignore
    ++ note_unless matched slots.Hide filtering.hide
    ++ note_unless matched slots.Show filtering.show
    ++ note_unless matched slots.ShowFrom filtering.show_from

-- the notes on the patterns of labels, likewise
abbrev pub tag_notes : Filtering → List Bool → List ℕ
tag_notes filtering matched =
    note_unless matched slots.TagFocus filtering.tagfocus
    ++ note_unless matched slots.TagIgnore filtering.tagignore
    ++ note_unless matched slots.TagShow filtering.tagshow
    ++ note_unless matched slots.TagHide filtering.taghide

-- The notes by which options match: focus, ignore, hide, show, show_from, tagfocus,
-- tagignore, prune_from (which is never noted), tagshow and taghide.
unfoldable pub notes_by : Filtering → List Bool → List ℕ
notes_by filtering matched = frame_notes filtering matched ++ tag_notes filtering matched

-- The notes of a report, of what its patterns match in the samples of the profile.
abbrev pub notes_text : Profile → Finders → Filtering → List ℕ
notes_text p f filtering = notes_by filtering (matches_of p f filtering)
