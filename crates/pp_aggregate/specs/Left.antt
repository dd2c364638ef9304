-- What is left of a frame in an aggregated profile, and which reports do not miss what is dropped.
use Rattle.std.specs.Prelude.{◌≡◌, Bool, true, false, not, ◌&&◌, ◌||◌, [], Option, None, if◌then◌else◌}
use Rattle.std.specs.Option.{option_map_or}
use Rattle.pp_model.specs.declared.grouping.Grain.{Grain}
use Rattle.pp_model.specs.declared.grouping.Grain.TheVariants.{Functions, FileFunctions, Files, Lines, Addresses}
use Rattle.pp_model.specs.declared.frame.Frame.{Frame}
use Rattle.pp_model.specs.declared.profile.Profile.{Profile}
use Rattle.pp_model.specs.declared.grouping.Grouping.{Grouping}
use Rattle.pp_model.specs.Finders.{Finder, Finders}
use Rattle.pp_model.specs.FrameTexts.{Written, written}
use Rattle.pp_stack.specs.Filters.{finds_frame, finds_function, is_prunable}
use Rattle.pp_aggregate.specs.declared.aggregating.Kept.{Kept}
use Rattle.pp_aggregate.specs.Aggregated.{number_if}

-- what is left of a frame; its object always is
abbrev pub left_of_frame : Kept → Written → Written
left_of_frame keep w = record {
  function = if keep.functions then w.function else [];
  file = if keep.filenames then w.file else [];
  line = number_if keep.lines w.line;
  column = number_if (keep.lines && keep.columns) w.column;
  address = if keep.addresses then w.address else 0;
  object = w.object;
}

-- all that keys of lines look at is kept, with columns or without
abbrev pub keeps_lines : Kept → Bool → Bool
keeps_lines keep showcolumns =
    keep.functions && (keep.filenames && (keep.lines && (not showcolumns || keep.columns)))

-- all that keys of the grain look at is kept
abbrev pub keeps_keys : Kept → Grain → Bool → Bool
keeps_keys keep Functions showcolumns = keep.functions
keeps_keys keep FileFunctions showcolumns = keep.functions && keep.filenames
keeps_keys keep Files showcolumns = keep.filenames
keeps_keys keep Lines showcolumns = keeps_lines keep showcolumns
keeps_keys keep Addresses showcolumns = keeps_lines keep showcolumns && keep.addresses

-- each frame that the report counts is kept
abbrev pub keeps_counted : Kept → Grouping → Bool
keeps_counted keep grouping = keep.inline_frames || grouping.noinlines

-- the pattern finds the frame; one that isn't in force finds none
abbrev pub finds_in_force : Option Finder → Written → Bool
finds_in_force pattern w = option_map_or (λ find. finds_frame find w) pattern false

-- the pattern finds the frame's function; one that isn't in force finds none
abbrev pub names_in_force : Option Finder → Written → Bool
names_in_force pattern w = option_map_or (λ find. finds_function find w) pattern false

-- load pruning may cut the stack at the frame
abbrev pub prunes : Finders → Written → Bool
prunes f w = option_map_or (λ drop. is_prunable drop f.keep w) f.drop false

-- the test passes for what is left of a frame where it passes for the frame
abbrev pub Stays : Kept → Profile → (Written → Bool) → Type 0
Stays keep p test = (x : Frame) → test (left_of_frame keep (written p x)) ≡ test (written p x)

-- What patterns find of each frame they find of what is left of it.
pub record FindsLeft (keep : Kept) (p : Profile) (f : Finders) : Type 0 where
  pub drop : Stays keep p (prunes f)
  pub focus : Stays keep p (finds_in_force f.focus)
  pub ignore : Stays keep p (finds_in_force f.ignore)
  pub hide : Stays keep p (finds_in_force f.hide)
  pub show : Stays keep p (finds_in_force f.show)
  pub show_from : Stays keep p (finds_in_force f.show_from)
  pub prune_from : Stays keep p (names_in_force f.prune_from)

-- no pattern is asked of frames
pub record AsksNoFrame (f : Finders) : Type 0 where
  pub drop : f.drop ≡ None
  pub focus : f.focus ≡ None
  pub ignore : f.ignore ≡ None
  pub hide : f.hide ≡ None
  pub show : f.show ≡ None
  pub show_from : f.show_from ≡ None
  pub prune_from : f.prune_from ≡ None

-- Patterns do not miss what is dropped. Inlined frames that are dropped are missed by each pattern on frames.
abbrev pub patterns_stay : Bool → Kept → Profile → Finders → Type 0
patterns_stay true keep p f = FindsLeft keep p f
patterns_stay false keep p f = AsksNoFrame f

-- The samples that the filters leave do not depend on what is dropped, nor do their frames that count.
pub record FramesStay (keep : Kept) (p : Profile) (f : Finders) (grouping : Grouping) : Type 0 where
  pub counted : keeps_counted keep grouping ≡ true
  pub patterns : patterns_stay keep.inline_frames keep p f
