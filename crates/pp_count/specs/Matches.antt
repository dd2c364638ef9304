-- Which options of a report match something among samples. Samples that other filters drop count too.
use Rattle.std.specs.Prelude.{ℕ, Bool, true, false, ◌||◌, List, [], ◌∷◌, drop, slice_index_or, Option}
use Rattle.std.specs.List.{list_any}
use Rattle.std.specs.Option.{option_map_or}
use Rattle.pp_model.specs.declared.profile.Sample.{Sample}
use Rattle.pp_model.specs.declared.profile.Profile.{Profile}
use Rattle.pp_model.specs.declared.filtering.Filtering.{Filtering}
use Rattle.pp_model.specs.Finders.{Finder, Finders, TagFinders}
use Rattle.pp_model.specs.Frames.{stack_of}
use Rattle.pp_model.specs.FrameTexts.{written}
use Rattle.pp_stack.specs.Filters.{finds_frame, load_pruned}
use Rattle.pp_tags.specs.Labels.{key_text}
use Rattle.pp_tags.specs.TagFilters.{filter_in_force, selects_or}

-- the pattern finds a frame that load pruning left of the sample's stack
abbrev pub stack_has : Profile → Finders → Finder → Sample → Bool
stack_has p f find s =
    list_any (λ x. finds_frame find (written p x)) (load_pruned (written p) f (stack_of p s))

-- the pattern finds the key of one of the sample's labels
abbrev pub label_has : Profile → Finder → Sample → Bool
label_has p find s = list_any (λ label. find (key_text p label)) s.label

-- a pattern on frames has a match; one that isn't in force has none
abbrev pub frame_match : Profile → Finders → Option Finder → List Sample → Bool
frame_match p f pattern samples =
    option_map_or (λ find. list_any (stack_has p f find) samples) pattern false

-- a pattern on label keys has a match; one that isn't in force has none
abbrev pub key_match : Profile → Option Finder → List Sample → Bool
key_match p pattern samples =
    option_map_or (λ find. list_any (label_has p find) samples) pattern false

-- a tag filter selects one of the samples; one that isn't in force selects none
abbrev pub tag_match : Profile → List ℕ → TagFinders → List Sample → Bool
tag_match p text parts samples = list_any (selects_or false p (filter_in_force text) parts) samples

-- Whether each option has a match among these samples: focus, ignore, hide, show, show_from, tagfocus, tagignore,
-- prune_from, tagshow and taghide. prune_from is never without one.
abbrev pub matches_among : Profile → Finders → Filtering → List Sample → List Bool
matches_among p f filtering samples =
    frame_match p f f.focus samples
    ∷ frame_match p f f.ignore samples
    ∷ frame_match p f f.hide samples
    ∷ frame_match p f f.show samples
    ∷ frame_match p f f.show_from samples
    ∷ tag_match p filtering.tagfocus f.tagfocus samples
    ∷ tag_match p filtering.tagignore f.tagignore samples
    ∷ true
    ∷ key_match p f.tagshow samples
    ∷ key_match p f.taghide samples
    ∷ []

-- whether each option has a match among all loaded samples
abbrev pub matches_of : Profile → Finders → Filtering → List Bool
matches_of p f filtering = matches_among p f filtering p.sample

-- the matches of no samples
abbrev pub no_matches : List Bool
no_matches = false ∷ false ∷ false ∷ false ∷ false ∷ false ∷ false ∷ true ∷ false ∷ false ∷ []

-- the matches of two ranges of samples: slot by slot, those of either
abbrev pub either : List Bool → List Bool → List Bool
either [] others = []
either (slot ∷ slots) others =
    (slot || slice_index_or others 0 false) ∷ either slots (drop 1 others)
