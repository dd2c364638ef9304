-- The patterns of a report: in which order they are asked, and what their verdicts are.
use Rattle.std.specs.Option.{option_map_or}
use Rattle.std.specs.Prelude.{◌≡◌, ℕ, Bool, List, [], map, Option, None, Some, Ok, option_map, unwrap_or}
use Rattle.pp_model.specs.declared.profile.Profile.{Profile}
use Rattle.pp_model.specs.declared.verdicts.Slot.{Slot}
use Rattle.pp_model.specs.declared.verdicts.Slot.TheVariants.{Focus, Ignore, Hide, Show, ShowFrom, TagFocus, TagIgnore, PruneFrom, TagShow, TagHide, Own}
use Rattle.pp_model.specs.declared.verdicts.Tag.{Tag}
use Rattle.pp_model.specs.declared.verdicts.Verdicts.{Verdicts}
use Rattle.pp_model.specs.declared.loaded.Loaded.{Loaded}
use Rattle.pp_model.specs.declared.filtering.Filtering.{Filtering}
use Rattle.pp_model.specs.Conditions.{HasVerdicts}
use Rattle.pp_model.specs.Finders.{Finder, Finders, TagFinders, HoldsFinders}
use Rattle.pp_model.specs.Judged.{judged}
use Rattle.pp_tags.specs.declared.tag_filter.TagFilter.{TagFilter}
use Rattle.pp_tags.specs.TagFilters.{filter_in_force, subjects, by_text, AreTagVerdicts, HasItsTags}
use Rattle.pp_tags.specs.TagPairs.{tag_pairs}
use Rattle.pp_desk.specs.Script.{Give}
use Rattle.pp_pattern.specs.declared.report.PatternRefused.{PatternRefused}
use Rattle.pp_pattern.specs.declared.report.FrameVerdicts.{FrameVerdicts}
use Rattle.pp_pattern.specs.declared.report.TagVerdicts.{TagVerdicts}
use Rattle.pp_pattern.specs.declared.report.NameVerdicts.{NameVerdicts}
use Rattle.pp_desk.specs.Asking.{Asking, ◌>>=◌}
use Rattle.pp_pattern.specs.Patterns.{finder_in_force, part_finder, judge_option, judge_parts}

-- what a matcher finds: a pattern in a subject
abbrev pub Finds : Type 0
Finds = List ℕ → List ℕ → Bool

-- the refusal of the pattern of an option
abbrev pub slot_refused : Slot → PatternRefused
slot_refused slot = record { option = slot }

-- Asks for the patterns of frames: focus, ignore, hide, show, show_from.
unfoldable pub judge_frames : Finds → Filtering → List (List ℕ)
    → Asking PatternRefused FrameVerdicts
judge_frames finds filtering texts = do
  focus ← judge_option finds (slot_refused Focus) texts filtering.focus
  ignore ← judge_option finds (slot_refused Ignore) texts filtering.ignore
  hide ← judge_option finds (slot_refused Hide) texts filtering.hide
  show ← judge_option finds (slot_refused Show) texts filtering.show
  show_from ← judge_option finds (slot_refused ShowFrom) texts filtering.show_from
  Give (Ok (record {
    focus = focus;
    ignore = ignore;
    hide = hide;
    show = show;
    show_from = show_from;
  }))

-- the tags that filters are asked of, where one is in force
abbrev pub tags_for : Profile → Option TagFilter → Option TagFilter → List Tag
tags_for p None None = []
tags_for p focus ignore = tag_pairs p

-- Asks for the parts of a tag filter, where it is in force.
unfoldable pub judge_filter : Finds → Slot → Profile → List Tag → Option TagFilter
    → Asking PatternRefused (List (List Bool))
judge_filter finds slot p tags None = Give (Ok [])
judge_filter finds slot p tags (Some f) =
    judge_parts finds (slot_refused slot) (subjects p tags f.name) [] f.parts

-- Asks for the patterns of tag filters: the parts of tagfocus, then those of tagignore.
unfoldable pub judge_tags : Finds → Profile → Option TagFilter → Option TagFilter
    → Asking PatternRefused TagVerdicts
judge_tags finds p focus ignore = do
  tagfocus ← judge_filter finds TagFocus p (tags_for p focus ignore) focus
  tagignore ← judge_filter finds TagIgnore p (tags_for p focus ignore) ignore
  Give (Ok (record {
    tag = tags_for p focus ignore;
    tagfocus = tagfocus;
    tagignore = tagignore;
  }))

-- Asks for the other patterns: prune_from, tagshow, taghide, and the report's own.
unfoldable pub judge_names : Finds → Filtering → Option (List ℕ) → List (List ℕ)
    → Asking PatternRefused NameVerdicts
judge_names finds filtering own texts = do
  prune_from ← judge_option finds (slot_refused PruneFrom) texts filtering.prune_from
  tagshow ← judge_option finds (slot_refused TagShow) texts filtering.tagshow
  taghide ← judge_option finds (slot_refused TagHide) texts filtering.taghide
  own ← judge_option finds (slot_refused Own) texts (unwrap_or own [])
  Give (Ok (record { prune_from = prune_from; tagshow = tagshow; taghide = taghide; own = own }))

-- all verdicts of a report
abbrev pub all_verdicts : FrameVerdicts → TagVerdicts → NameVerdicts → Verdicts
all_verdicts frames tags names = record {
  focus = frames.focus;
  ignore = frames.ignore;
  hide = frames.hide;
  show = frames.show;
  show_from = frames.show_from;
  prune_from = names.prune_from;
  tagshow = names.tagshow;
  taghide = names.taghide;
  own = names.own;
  tag = tags.tag;
  tagfocus = tags.tagfocus;
  tagignore = tags.tagignore;
}

-- Asks for all patterns of a report with these tag filters.
unfoldable pub judge_with : Finds → Filtering → Option (List ℕ) → Profile → Option TagFilter
    → Option TagFilter
    → Asking PatternRefused Verdicts
judge_with finds filtering own p focus ignore = do
  frames ← judge_frames finds filtering p.text
  tags ← judge_tags finds p focus ignore
  names ← judge_names finds filtering own p.text
  Give (Ok (all_verdicts frames tags names))

-- Asks for all patterns of a report that aren't empty. The first that is refused is named, and none is asked after it.
abbrev pub judge : Finds → Filtering → Option (List ℕ) → Profile → Asking PatternRefused Verdicts
judge finds filtering own p =
    judge_with finds filtering own p (filter_in_force filtering.tagfocus)
    (filter_in_force filtering.tagignore)

-- what the pattern of an option's value finds of the texts, where it is in force
abbrev pub found_in : Finds → List (List ℕ) → List ℕ → Option (List Bool)
found_in finds texts pattern = option_map (λ find. map find texts) (finder_in_force finds pattern)

-- what the parts of a tag filter find
abbrev pub parts_found : Finds → Profile → List Tag → Option TagFilter → List (List Bool)
parts_found finds p tags None = []
parts_found finds p tags (Some f) =
    map (λ part. map (part_finder finds part) (subjects p tags f.name)) f.parts

-- the verdicts of the patterns of frames
abbrev pub frames_found : Finds → Filtering → List (List ℕ) → FrameVerdicts
frames_found finds filtering texts = record {
  focus = found_in finds texts filtering.focus;
  ignore = found_in finds texts filtering.ignore;
  hide = found_in finds texts filtering.hide;
  show = found_in finds texts filtering.show;
  show_from = found_in finds texts filtering.show_from;
}

-- the verdicts of the patterns of tag filters
abbrev pub tags_found : Finds → Profile → Option TagFilter → Option TagFilter → TagVerdicts
tags_found finds p focus ignore = record {
  tag = tags_for p focus ignore;
  tagfocus = parts_found finds p (tags_for p focus ignore) focus;
  tagignore = parts_found finds p (tags_for p focus ignore) ignore;
}

-- the verdicts of the other patterns
abbrev pub names_found : Finds → Filtering → Option (List ℕ) → List (List ℕ) → NameVerdicts
names_found finds filtering own texts = record {
  prune_from = found_in finds texts filtering.prune_from;
  tagshow = found_in finds texts filtering.tagshow;
  taghide = found_in finds texts filtering.taghide;
  own = found_in finds texts (unwrap_or own []);
}

-- all verdicts of a report with these tag filters
abbrev pub verdicts_with : Finds → Filtering → Option (List ℕ) → Profile → Option TagFilter
    → Option TagFilter → Verdicts
verdicts_with finds filtering own p focus ignore =
    all_verdicts (frames_found finds filtering p.text) (tags_found finds p focus ignore)
    (names_found finds filtering own p.text)

-- All verdicts of a report, where no pattern is refused.
abbrev pub verdicts_of : Finds → Filtering → Option (List ℕ) → Profile → Verdicts
verdicts_of finds filtering own p =
    verdicts_with finds filtering own p (filter_in_force filtering.tagfocus)
    (filter_in_force filtering.tagignore)

-- what the parts of a tag filter find, where it is in force
abbrev pub filter_finders : Finds → Option TagFilter → TagFinders
filter_finders finds filter = by_text (option_map_or (λ f. map (part_finder finds) f.parts) filter [])

-- what the patterns of a report find, beside those of its profile
abbrev pub finders_of : Finds → Filtering → Option (List ℕ) → Option Finder → Option Finder
    → Finders
finders_of finds filtering own drop keep = record {
  drop = drop;
  keep = keep;
  focus = finder_in_force finds filtering.focus;
  ignore = finder_in_force finds filtering.ignore;
  hide = finder_in_force finds filtering.hide;
  show = finder_in_force finds filtering.show;
  show_from = finder_in_force finds filtering.show_from;
  prune_from = finder_in_force finds filtering.prune_from;
  tagshow = finder_in_force finds filtering.tagshow;
  taghide = finder_in_force finds filtering.taghide;
  own = finder_in_force finds (unwrap_or own []);
  tagfocus = filter_finders finds (filter_in_force filtering.tagfocus);
  tagignore = filter_finders finds (filter_in_force filtering.tagignore);
}

-- What is true of the verdicts of a report, beside the profile's own two lists: they are what the patterns find, with
-- one truth value a text; those of tag filters are what the parts find of the texts or of the profile's tags.
pub record AreVerdictsOf (finds : Finds) (filtering : Filtering) (own : Option (List ℕ))
    (l : Loaded) (v : Verdicts) : Type 0 where
  pub holds : (drop keep : Option Finder) → l.drop ≡ judged l.profile drop → l.keep ≡ judged l.profile keep
      → HoldsFinders l v (finders_of finds filtering own drop keep)
  pub fits : HasVerdicts l.profile v
  pub tagfocus : AreTagVerdicts l.profile v.tag (filter_in_force filtering.tagfocus)
      (filter_finders finds (filter_in_force filtering.tagfocus)) v.tagfocus
  pub tagignore : AreTagVerdicts l.profile v.tag (filter_in_force filtering.tagignore)
      (filter_finders finds (filter_in_force filtering.tagignore)) v.tagignore
  pub focus_tags : HasItsTags l.profile v.tag (filter_in_force filtering.tagfocus)
  pub ignore_tags : HasItsTags l.profile v.tag (filter_in_force filtering.tagignore)
