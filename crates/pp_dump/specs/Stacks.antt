-- What a saved profile keeps of the stacks that the filters of a report leave.
use Rattle.std.specs.Prelude.{◌≡◌, ◌≢◌, ℕ, ◌<◌, ℤ, Bool, true, List, map, length, Option, option_map, unwrap_or, All, AllPairs, Contains}
use Rattle.std.specs.List.{filter_map}
use Rattle.pp_model.specs.declared.frame.Frame.{Frame}
use Rattle.pp_model.specs.declared.profile.Location.{Location}
use Rattle.pp_model.specs.declared.profile.Sample.{Sample}
use Rattle.pp_model.specs.declared.profile.Profile.{Profile}
use Rattle.pp_model.specs.declared.filtering.Filtering.{Filtering}
use Rattle.pp_model.specs.Conditions.{no_location}
use Rattle.pp_model.specs.Finders.{Finders}
use Rattle.pp_model.specs.Lookup.{location_with, text_of}
use Rattle.pp_model.specs.FrameTexts.{Written, written, written_at}
use Rattle.pp_tags.specs.TagFilters.{shown_labels}
use Rattle.pp_count.specs.Seeing.{filtered_stack}
use Rattle.pp_share.specs.Described.{MappingText, LineText, LabelText, function_found, mapping_found, line_text, label_text}
use Rattle.pp_share.specs.Sums.{counts}
use Rattle.pp_merge.specs.Totals.{sum_passing}
use Rattle.pp_restack.specs.Stacks.{by_place, cut_location}

-- A place of a stack: the mapping, address and folded flag of its location, the lines that are left of it, and its
-- frames.
pub record PlaceText : Type 0 where
  pub mapping : Option MappingText
  pub address : ℕ
  pub folded : Bool
  pub lines : List LineText
  pub frames : List Written

-- A sample without its values: the places of its stack, leaf first, and its labels, in order.
pub record StackText : Type 0 where
  pub places : List PlaceText
  pub labels : List LabelText

-- the place of a location, with these frames
abbrev pub location_place : Profile → Location → List Written → PlaceText
location_place p location frames = record {
  mapping = mapping_found p location.mapping_id;
  address = location.address;
  folded = location.folded;
  lines = map (line_text (function_found p)) location.line;
  frames = frames;
}

-- the place of the location with the id, as it stands
abbrev pub whole_place : Profile → ℕ → PlaceText
whole_place p id =
    location_place p (unwrap_or (location_with p id) no_location) (written_at p id)

-- the place of a group of frames, with these frames alone
abbrev pub left_place : Profile → List Frame → PlaceText
left_place p group = location_place p (cut_location p group) (map (written p) group)

-- a sample of the profile as it stands, and its values
abbrev pub whole_stack : Profile → Sample → StackText × List ℤ
whole_stack p s = (
  record {
    places = map (whole_place p) s.location_id;
    labels = map (label_text (text_of p)) s.label;
  },
  s.value,
)

-- a sample of which the filters leave this stack, with its labels that are shown, and its values
abbrev pub left_stack : Profile → Finders → Sample → List Frame → StackText × List ℤ
left_stack p f s stack = (
  record {
    places = map (left_place p) (by_place stack);
    labels = map (label_text (text_of p)) (shown_labels p f s.label);
  },
  s.value,
)

-- all samples of the profile
abbrev pub whole_stacks : Profile → List (StackText × List ℤ)
whole_stacks p = map (whole_stack p) p.sample

-- the samples that the filters leave, as they leave them
abbrev pub left_stacks : Profile → Finders → Filtering → List (StackText × List ℤ)
left_stacks p f filtering =
    filter_map (λ s. option_map (left_stack p f s) (filtered_stack p f filtering s)) p.sample

-- the samples without their values
abbrev pub without_values : List (StackText × List ℤ) → List StackText
without_values samples = map (λ s. s.0) samples

-- The samples of the saved profile are those that the filters leave, where equal ones became one and those of 0 went.
-- Each is one of them, no two are equal, and each has a value that isn't 0. The sum of each column is what it was over
-- the samples that pass a test, whatever the test asks of stack and labels.
pub record KeepsStacks (p : Profile) (f : Finders) (filtering : Filtering) (q : Profile)
    : Type 0 where
  pub each
      : All (Contains (without_values (left_stacks p f filtering)))
      (without_values (whole_stacks q))
  pub apart : AllPairs (λ a b. a ≢ b) (without_values (whole_stacks q))
  pub counted : All (λ s. counts s ≡ true) (whole_stacks q)
  pub sums : (test : StackText → Bool) → (column : ℕ) → column < length p.sample_type
      → sum_passing test column (whole_stacks q)
      ≡ sum_passing test column (left_stacks p f filtering)
