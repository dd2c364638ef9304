-- Which keys the own pattern of a report finds, frame by frame. No public clause cites this file.
use Rattle.std.specs.Prelude.{◌≡◌, ℕ, pos, length, Bool, true, false, not, ◌&&◌, List, map, slice_get, slice_index_or, Option}
use Rattle.std.specs.List.{list_any}
use Rattle.std.specs.Option.{option_map_or}
use Rattle.std.specs.Ordering.{eq_by_cmp, int_eq}
use Rattle.pp_tree.specs.declared.own.PeekScope.{PeekScope}
use Rattle.pp_model.specs.Conditions.{HasVerdicts}
use Rattle.pp_model.specs.declared.config.Config.{Config}
use Rattle.pp_model.specs.declared.grouping.Grain.{Grain}
use Rattle.pp_model.specs.declared.grouping.Grain.TheVariants.{Functions, FileFunctions, Files, Lines, Addresses}
use Rattle.pp_model.specs.declared.frame.Frame.{Frame}
use Rattle.pp_model.specs.declared.profile.Profile.{Profile}
use Rattle.pp_model.specs.declared.profile.Sample.{Sample}
use Rattle.pp_model.specs.declared.grouping.Grouping.{Grouping}
use Rattle.pp_model.specs.Finders.{Finder, Finders}
use Rattle.pp_model.specs.FrameTexts.{Written, written}
use Rattle.pp_grain.specs.declared.key.Key.{Key}
use Rattle.pp_grain.specs.Keys.{key_cmp, key_written, frame_counts}
use Rattle.pp_stack.specs.Filters.{frames_of_sample}
use Rattle.pp_count.specs.Column.{selected}
use Rattle.pp_count.specs.Seeing.{counted_frames, key_of_frame}
use Rattle.pp_graph.specs.Figures.{is_found_frame}
use Rattle.pp_tree.specs.Peek.{own_finds}

-- the own pattern finds the frame's function, and the key is the frame's
abbrev pub is_own_of : Finders → Grouping → Written → Written → Bool
is_own_of f grouping k w = is_found_frame grouping (own_finds f.own) k w

-- the keys of the grain have their frames' function
abbrev pub keeps_function : Grain → Bool
keeps_function Functions = true
keeps_function FileFunctions = true
keeps_function Files = false
keeps_function Lines = true
keeps_function Addresses = true

-- one of the keys is this one
abbrev pub holds_key : Profile → List Key → Written → Bool
holds_key p keys k = list_any (eq_by_cmp key_cmp k) (map (key_written p) keys)

-- the pattern finds the frame's function, and the key is the frame's
abbrev pub is_own_frame : Profile → Grouping → Finder → Written → Frame → Bool
is_own_frame p grouping find k x =
    find (written p x).function && eq_by_cmp key_cmp k (key_of_frame p grouping x)

-- a frame at no place
abbrev pub no_frame : Frame
no_frame = record { place = 0; location = 0; row = Option.None }

-- the frame at the place counts, and is such a one
abbrev pub is_own_at : Profile → Grouping → Finder → Written → List Frame → ℕ → Bool
is_own_at p grouping find k stack place =
    frame_counts stack place grouping.noinlines
    && is_own_frame p grouping find k (slice_index_or stack place no_frame)

-- one of the stack's frames that count is such a one
abbrev pub has_own_frame : Profile → Grouping → Finder → Written → List Frame → Bool
has_own_frame p grouping find k stack =
    list_any (is_own_frame p grouping find k) (counted_frames grouping.noinlines stack)

-- the sample's value isn't 0, and what the stack filters leave of its stack has such a frame
abbrev pub has_own_sample : Profile → Finders → Config → Option ℕ → Finder → Written → Sample → Bool
has_own_sample p f config column find k s =
    not (int_eq (selected column config.presentation.divide_by s) (pos 0))
    && option_map_or (has_own_frame p config.grouping find k) (frames_of_sample p f s) false

-- the sample with this number has the key on a frame that the own pattern finds
abbrev pub has_own_number : Profile → Finders → Config → Option ℕ → Finder → Written → ℕ → Bool
has_own_number p f config column find k n =
    option_map_or (has_own_sample p f config column find k) (slice_get p.sample n) false

-- The verdicts are those of the profile, with one of the own pattern for each text.
pub record CanAsk (asked : PeekScope) : Type 0 where
  pub verdicts : HasVerdicts asked.l.now.profile asked.v.now
  pub fits : length asked.own.now ≡ length asked.l.now.profile.text
