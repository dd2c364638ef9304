-- Which filter is the first to drop a sample.
use Rattle.std.specs.Prelude.{Bool, true, false, not, List, [], Option, Some, None, is_some, if◌then◌else◌}
use Rattle.std.specs.List.{list_any}
use Rattle.std.specs.Option.{option_map_or}
use Rattle.pp_model.specs.declared.profile.Sample.{Sample}
use Rattle.pp_model.specs.declared.profile.Profile.{Profile}
use Rattle.pp_model.specs.declared.verdicts.Slot.{Slot}
use Rattle.pp_model.specs.declared.verdicts.Slot.TheVariants as slots
use Rattle.pp_model.specs.declared.filtering.Filtering.{Filtering}
use Rattle.pp_model.specs.Finders.{Finder, Finders}
use Rattle.pp_model.specs.Frames.{stack_of}
use Rattle.pp_model.specs.FrameTexts.{Written, written}
use Rattle.pp_stack.specs.Filters.{finds_frame, load_pruned, not_hidden, frames_shown, shown_from, is_emptied}
use Rattle.pp_tags.specs.TagFilters.{filter_in_force, selects_or}

-- whether the pattern finds a frame of the stack; the other answer where it isn't in force
abbrev pub finds_or : {X : Type 0} → (X → Written) → Option Finder → List X → Bool → Bool
finds_or told pattern stack otherwise =
    option_map_or (λ find. list_any (λ x. finds_frame find (told x)) stack) pattern otherwise

-- The filter after hide that is the first to drop what hide left: show where it leaves none of some frames, show_from
-- where it finds no frame of what show leaves.
abbrev pub first_of_shown : {X : Type 0} → (X → Written) → Finders → List X → Option Slot
first_of_shown told f stack =
    if is_emptied stack (frames_shown told f stack) then Some slots.Show
    else (if not (is_some (shown_from told f (frames_shown told f stack))) then Some slots.ShowFrom
    else None)

-- The stack filter that is the first to drop the stack, after load pruning. Ignore drops it where it finds a frame, and
-- focus where it finds none. Hide drops it where it leaves no frame of a stack that had some. Then come those after it.
abbrev pub first_of_stack : {X : Type 0} → (X → Written) → Finders → List X → Option Slot
first_of_stack told f stack =
    if finds_or told f.ignore stack false then Some slots.Ignore
    else (if not (finds_or told f.focus stack true) then Some slots.Focus
    else (if is_emptied stack (not_hidden told f stack) then Some slots.Hide
    else first_of_shown told f (not_hidden told f stack)))

-- The tag filter that is the first to drop the sample: tagfocus where it doesn't select it, tagignore where it does.
abbrev pub first_of_tags : Profile → Finders → Filtering → Sample → Option Slot
first_of_tags p f filtering s =
    if not (selects_or true p (filter_in_force filtering.tagfocus) f.tagfocus s)
    then Some slots.TagFocus
    else (if selects_or false p (filter_in_force filtering.tagignore) f.tagignore s
    then Some slots.TagIgnore
    else None)

-- the first, and where there is none the second
abbrev pub slot_else : Option Slot → Option Slot → Option Slot
slot_else (Some slot) other = Some slot
slot_else None other = other

-- The filter that is the first to drop the sample, none where all of them let it pass. Stack filters come before tag
-- filters.
abbrev pub first_filter : Profile → Finders → Filtering → Sample → Option Slot
first_filter p f filtering s =
    slot_else (first_of_stack (written p) f (load_pruned (written p) f (stack_of p s)))
    (first_of_tags p f filtering s)

-- whether it is this filter
abbrev pub is_filter : Slot → Option Slot → Bool
is_filter slots.Ignore (Some slots.Ignore) = true
is_filter slots.Focus (Some slots.Focus) = true
is_filter slots.Hide (Some slots.Hide) = true
is_filter slots.Show (Some slots.Show) = true
is_filter slots.ShowFrom (Some slots.ShowFrom) = true
is_filter slots.TagFocus (Some slots.TagFocus) = true
is_filter slots.TagIgnore (Some slots.TagIgnore) = true
is_filter _ _ = false

-- Whether the filter is in force. Those that drop no sample aren't asked.
abbrev pub is_in_force : Finders → Filtering → Slot → Bool
is_in_force f filtering slots.Ignore = is_some f.ignore
is_in_force f filtering slots.Focus = is_some f.focus
is_in_force f filtering slots.Hide = is_some f.hide
is_in_force f filtering slots.Show = is_some f.show
is_in_force f filtering slots.ShowFrom = is_some f.show_from
is_in_force f filtering slots.TagFocus = is_some (filter_in_force filtering.tagfocus)
is_in_force f filtering slots.TagIgnore = is_some (filter_in_force filtering.tagignore)
is_in_force f filtering _ = false
