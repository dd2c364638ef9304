-- How a report sees the samples of a profile: the stacks that the filters leave, and the keys of the frames that count.
use Rattle.std.specs.Prelude.{ℕ, ◌+◌, nat_abs, Bool, List, [], ◌∷◌, map, Option, None, is_some, option_map, if◌then◌else◌}
use Rattle.std.specs.List.{filter_map, sum_by}
use Rattle.pp_model.specs.declared.config.Config.{Config}
use Rattle.pp_model.specs.declared.frame.Frame.{Frame}
use Rattle.pp_model.specs.declared.profile.Sample.{Sample}
use Rattle.pp_model.specs.declared.profile.Profile.{Profile}
use Rattle.pp_model.specs.declared.loaded.Loaded.{Loaded}
use Rattle.pp_model.specs.declared.verdicts.Verdicts.{Verdicts}
use Rattle.pp_model.specs.declared.grouping.Grouping.{Grouping}
use Rattle.pp_model.specs.declared.filtering.Filtering.{Filtering}
use Rattle.pp_model.specs.Finders.{Finders, HoldsFinders}
use Rattle.pp_model.specs.FrameTexts.{Written, written}
use Rattle.pp_grain.specs.Keys.{frame_counts, key_texts}
use Rattle.pp_stack.specs.Filters.{frames_of_sample}
use Rattle.pp_tags.specs.TagFilters.{AreTagVerdicts, filter_in_force, is_tag_kept}
use Rattle.pp_count.specs.Column.{selected}
use Rattle.pp_count.specs.Sums.{Seen}

-- the frames that count, leaf first
abbrev pub counted_frames : Bool → List Frame → List Frame
counted_frames noinlines [] = []
counted_frames noinlines (f ∷ stack) =
    if frame_counts (f ∷ stack) 0 noinlines then f ∷ counted_frames noinlines stack
    else counted_frames noinlines stack

-- the key of the frame, by the configuration's grain
abbrev pub key_of_frame : Profile → Grouping → Frame → Written
key_of_frame p grouping f = key_texts grouping.grain grouping.showcolumns (written p f)

-- the keys of the frames of a stack that count, leaf first
abbrev pub keys_of_stack : Profile → Grouping → List Frame → List Written
keys_of_stack p grouping stack =
    map (key_of_frame p grouping) (counted_frames grouping.noinlines stack)

-- The verdicts of a report are what its patterns find: those on stacks, and the parts of its two tag filters.
pub record HoldsFilters (l : Loaded) (v : Verdicts) (filtering : Filtering) (f : Finders)
    : Type 0 where
  pub found : HoldsFinders l v f
  pub tagfocus
      : AreTagVerdicts l.profile v.tag (filter_in_force filtering.tagfocus) f.tagfocus v.tagfocus
  pub tagignore
      : AreTagVerdicts l.profile v.tag (filter_in_force filtering.tagignore) f.tagignore v.tagignore

-- whether the sample passes the configuration's tag filters
abbrev pub passes_tags : Profile → Finders → Filtering → Sample → Bool
passes_tags p f filtering s =
    is_tag_kept p (filter_in_force filtering.tagfocus) (filter_in_force filtering.tagignore) f s

-- What the stack filters leave of the sample's stack. None where they or the tag filters drop the sample.
abbrev pub filtered_stack : Profile → Finders → Filtering → Sample → Option (List Frame)
filtered_stack p f filtering s =
    if passes_tags p f filtering s then frames_of_sample p f s else None

-- the sample with the frames of this stack that count, written out
abbrev pub framed_with : Profile → Config → Option ℕ → Sample → List Frame → Seen Written
framed_with p config column s stack = record {
  value = selected column config.presentation.divide_by s;
  keys = map (written p) (counted_frames config.grouping.noinlines stack);
}

-- The samples that the filters leave, in order, with their frames that count, written out, in the place of keys.
abbrev pub framed_samples : Profile → Finders → Config → Option ℕ → List Sample → List (Seen Written)
framed_samples p f config column samples =
    filter_map (λ s. option_map (framed_with p config column s)
    (filtered_stack p f config.filtering s)) samples

-- the sample with this stack
abbrev pub seen_with : Profile → Config → Option ℕ → Sample → List Frame → Seen Written
seen_with p config column s stack =
    record {
      value = selected column config.presentation.divide_by s;
      keys = keys_of_stack p config.grouping stack;
    }

-- The sample as the report sees it, none where the filters drop it.
abbrev pub seen : Profile → Finders → Config → Option ℕ → Sample → Option (Seen Written)
seen p f config column s =
    option_map (seen_with p config column s) (filtered_stack p f config.filtering s)

-- The samples that the filters leave, as the report sees them, in order.
abbrev pub seen_samples : Profile → Finders → Config → Option ℕ → List Sample → List (Seen Written)
seen_samples p f config column samples = filter_map (seen p f config column) samples

-- the numbers of the samples that a test keeps, where the first has this number
abbrev pub numbers_from : (Sample → Bool) → ℕ → List Sample → List ℕ
numbers_from test number [] = []
numbers_from test number (s ∷ samples) =
    if test s then number ∷ numbers_from test (number + 1) samples
    else numbers_from test (number + 1) samples

-- The numbers of the samples that the filters leave, where the first sample has this number.
abbrev pub filtered_from : Profile → Finders → Filtering → ℕ → List Sample → List ℕ
filtered_from p f filtering number samples =
    numbers_from (λ s. is_some (filtered_stack p f filtering s)) number samples

-- the sum of the absolute selected values of all samples, filtered or not
abbrev pub absolute_all : Option ℕ → ℕ → List Sample → ℕ
absolute_all column divide_by samples =
    sum_by (λ s. nat_abs (selected column divide_by s)) samples
