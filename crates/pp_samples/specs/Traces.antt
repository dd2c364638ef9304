-- The traces report: each sample that the filters leave, with its labels and its frames that count.
use Rattle.std.specs.Prelude.{ℕ, ℤ, nat_abs, List, [], ◌∷◌, ◌++◌, codes, replicate, if◌then◌else◌, Option}
use Rattle.std.specs.List.{flat_map}
use Rattle.std.specs.Option.{option_map_or}
use Rattle.pp_model.specs.declared.config.Config.{Config}
use Rattle.pp_model.specs.declared.profile.Label.{Label}
use Rattle.pp_model.specs.declared.profile.Sample.{Sample}
use Rattle.pp_model.specs.declared.profile.Profile.{Profile}
use Rattle.pp_model.specs.declared.presentation.Presentation.{Presentation}
use Rattle.pp_model.specs.Finders.{Finders}
use Rattle.pp_model.specs.FrameTexts.{Written}
use Rattle.pp_units.specs.Shown.{Shown, picked}
use Rattle.pp_units.specs.Numbers.{value_text, right_text}
use Rattle.pp_units.specs.Head.{Facts, facts_text}
use Rattle.pp_tags.specs.Labels.{has_text, key_text, label_value_text as label_text, number_unit}
use Rattle.pp_tags.specs.TagFilters.{shown_labels}
use Rattle.pp_grain.specs.Naming.{name_text}
use Rattle.pp_count.specs.Column.{selected}
use Rattle.pp_count.specs.Seeing.{filtered_stack, keys_of_stack}

-- the line between two samples: 11 dashes, a plus, 55 dashes
unfoldable pub trace_separator : List ℕ
trace_separator = replicate 11 45 ++ codes "+" ++ replicate 55 45 ++ codes "\n"

-- a number in the unit that is picked for its own absolute value
unfoldable pub own_value : ℤ → List ℕ → List ℕ
own_value num unit = value_text num (picked (nat_abs num) unit)

-- the value of a label: its text, or its number
unfoldable pub trace_label_value : Profile → Label → List ℕ
trace_label_value p label =
    if has_text label then label_text p label else own_value label.num (number_unit p label)

-- the line of a label, with its key at the right of ten places
unfoldable pub trace_label_line : Profile → Label → List ℕ
trace_label_line p label =
    right_text 10 (key_text p label) ++ codes ":  " ++ trace_label_value p label ++ codes "\n"

-- the line of a frame, by its key, below what stands at the right of ten places
unfoldable pub frame_line : List ℕ → Written → List ℕ
frame_line front key = right_text 10 front ++ codes "   " ++ name_text key ++ codes "\n"

-- the lines of the frames, the first of which has the value
abbrev pub frame_lines : List ℕ → List Written → List ℕ
frame_lines value [] = []
frame_lines value (key ∷ keys) = frame_line value key ++ flat_map (frame_line []) keys

-- the lines of a sample with these labels and these frames that count, none where there are no such frames
abbrev pub trace_text : List ℕ → List ℕ → List Written → List ℕ
trace_text labels value [] = []
trace_text labels value (key ∷ keys) = trace_separator ++ labels ++ frame_lines value (key ∷ keys)

-- the lines of a sample whose stack is left so
abbrev pub trace_of_stack : Profile → Finders → Presentation → Option ℕ → Shown → Sample
    → List Written → List ℕ
trace_of_stack p f presentation column unit s keys =
    trace_text (flat_map (trace_label_line p) (shown_labels p f s.label))
    (value_text (selected column presentation.divide_by s) unit) keys

-- the lines of a sample, none where the filters drop it
abbrev pub trace_of : Profile → Finders → Config → Option ℕ → Shown → Sample → List ℕ
trace_of p f config column unit s =
    option_map_or
    (λ stack. trace_of_stack p f config.presentation column unit s
    (keys_of_stack p config.grouping stack))
    (filtered_stack p f config.filtering s) []

-- The text of the traces report.
abbrev pub traces_text : Profile → Finders → Config → Option ℕ → Facts → List ℕ
traces_text p f config column h =
    facts_text h ++ flat_map (trace_of p f config column h.unit) p.sample ++ trace_separator
