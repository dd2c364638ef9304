-- The profile that the raw and proto reports show: what the filters of a report leave of a profile.
use Rattle.std.specs.Prelude.{ℤ, List, map, option_map}
use Rattle.std.specs.List.{filter_map}
use Rattle.pp_model.specs.declared.frame.Frame.{Frame}
use Rattle.pp_model.specs.declared.profile.Sample.{Sample}
use Rattle.pp_model.specs.declared.profile.Profile.{Profile}
use Rattle.pp_model.specs.declared.filtering.Filtering.{Filtering}
use Rattle.pp_model.specs.Finders.{Finders}
use Rattle.pp_model.specs.Lookup.{text_of}
use Rattle.pp_tags.specs.TagFilters.{shown_labels}
use Rattle.pp_count.specs.Seeing.{filtered_stack}
use Rattle.pp_share.specs.Described.{SampleText, label_text}
use Rattle.pp_share.specs.Written.{Contents, written as profile_of}
use Rattle.pp_restack.specs.Stacks.{by_place, cut_text, made_contents}

-- the sample with this stack and its labels that are shown, written out, and all its values
abbrev pub cut_sample : Profile → Finders → Sample → List Frame → SampleText × List ℤ
cut_sample p f s stack = (
  record {
    locations = map (cut_text p) (by_place stack);
    labels = map (label_text (text_of p)) (shown_labels p f s.label);
  },
  s.value,
)

-- what the filters leave of the samples, in order
abbrev pub cut_samples : Profile → Finders → Filtering → List (SampleText × List ℤ)
cut_samples p f filtering =
    filter_map (λ s. option_map (cut_sample p f s) (filtered_stack p f filtering s)) p.sample

-- What the saved profile says. Equal samples are added up, and those without any value are dropped.
abbrev pub saved_contents : Profile → Finders → Filtering → Contents
saved_contents p f filtering = made_contents p (cut_samples p f filtering)

-- The saved profile: each sample that the filters leave, with the frames and labels that they leave and all its values.
abbrev pub saved : Profile → Finders → Filtering → Profile
saved p f filtering = profile_of (saved_contents p f filtering)
