-- The stack of a sample as places: each frame's location and line.
use Rattle.std.specs.Prelude.{ℕ, ◌+◌, ◌-◌, ℤ, pos, List, [], ◌∷◌, ◌++◌, length, map, slice_get, Option, Some, None}
use Rattle.std.specs.List.{range_with_len}
use Rattle.std.specs.Option.{option_and_then, option_map_or}
use Rattle.pp_model.specs.declared.profile.Sample.{Sample}
use Rattle.pp_model.specs.declared.profile.Mapping.{Mapping}
use Rattle.pp_model.specs.declared.profile.Line.{Line}
use Rattle.pp_model.specs.declared.profile.Function.{Function}
use Rattle.pp_model.specs.declared.profile.Profile.{Profile}
use Rattle.pp_model.specs.declared.frame.Frame.{Frame}
use Rattle.pp_model.specs.Conditions.{location_at}
use Rattle.pp_model.specs.Lookup.{text_number, mapping_with, function_with}

-- the frame of one row of a location
abbrev pub row_frame : ℕ → ℕ → ℕ → Frame
row_frame place location r = record { place = place; location = location; row = Some r }

-- the frames of a location as places: a row for each of its lines, or one frame without a row
abbrev pub rows : ℕ → ℕ → List Line → List Frame
rows place location [] = record { place = place; location = location; row = None } ∷ []
rows place location (line ∷ lines) =
    map (row_frame place location) (range_with_len 0 (length (line ∷ lines)))

-- the frames of the locations with these ids, whose first has this place in the sample
abbrev pub frames_from : Profile → ℕ → List ℕ → List Frame
frames_from p place [] = []
frames_from p place (id ∷ ids) =
    rows place (id - 1) (location_at p (id - 1)).line ++ frames_from p (place + 1) ids

-- The stack of the sample as places, leaf first. A location's id is its place plus 1.
abbrev pub stack_of : Profile → Sample → List Frame
stack_of p s = frames_from p 0 s.location_id

-- the lines of the location at the place
abbrev pub lines_at : Profile → ℕ → List Line
lines_at p location = (location_at p location).line

-- the line of the frame, where it has one
abbrev pub line_at : Profile → Frame → Option Line
line_at p f = option_and_then (λ r. slice_get (location_at p f.location).line r) f.row

-- the function of the frame's line
abbrev pub function_at : Profile → Frame → Option Function
function_at p f = option_and_then (λ line. function_with p line.function_id) (line_at p f)

-- the mapping of the frame's location
abbrev pub mapping_at : Profile → Frame → Option Mapping
mapping_at p f = mapping_with p (location_at p f.location).mapping_id

-- the text index of the frame's function name, 0 where not known
abbrev pub function_index : Profile → Frame → ℕ
function_index p f = option_map_or (λ f. text_number f.name) (function_at p f) 0

-- the text index of the frame's file name, 0 where not known
abbrev pub file_index : Profile → Frame → ℕ
file_index p f = option_map_or (λ f. text_number f.filename) (function_at p f) 0

-- the text index of the frame's object, 0 where not known
abbrev pub object_index : Profile → Frame → ℕ
object_index p f = option_map_or (λ m. text_number m.file) (mapping_at p f) 0

-- the number of the frame's line, 0 where it has no line
abbrev pub line_number : Profile → Frame → ℤ
line_number p f = option_map_or (λ line. line.line) (line_at p f) (pos 0)

-- the column of the frame's line, 0 where it has no line
abbrev pub column_number : Profile → Frame → ℤ
column_number p f = option_map_or (λ line. line.column) (line_at p f) (pos 0)

-- the address of the frame's location
abbrev pub address_number : Profile → Frame → ℕ
address_number p f = (location_at p f.location).address
