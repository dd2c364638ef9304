-- Which functions, mappings, locations and samples are one.
use Rattle.std.specs.Prelude.{ℕ, ◌-◌, ◌==◌, Bool, ◌&&◌, List, [], find, if◌then◌else◌}
use Rattle.std.specs.Option.{option_eq, unwrap_or}
use Rattle.std.specs.Ordering.{int_eq}
use Rattle.std.specs.Bool.{beq}
use Rattle.std.specs.Str.{bytes_eq}
use Rattle.std.specs.Cmp.Lexicographic.{pointwise}
use Rattle.pp_share.specs.Described.{FunctionText, MappingText, LineText, LocationText, LabelText, SampleText}

-- Functions are one where both names, the file and the first line are.
abbrev pub same_function : FunctionText → FunctionText → Bool
same_function a b =
    bytes_eq a.name b.name
    && (bytes_eq a.system_name b.system_name
    && (bytes_eq a.file b.file && int_eq a.start_line b.start_line))

-- what tells a mapping's file: its build id, or its path where that is empty
abbrev pub identity : MappingText → List ℕ
identity m = if bytes_eq [] m.build_id then m.file else m.build_id

-- Mappings are one where they are as long, begin at one place of the file, and map one
-- file. No mapping is shorter than 0.
abbrev pub same_mapping : MappingText → MappingText → Bool
same_mapping a b =
    a.limit - a.start == b.limit - b.start
    && (a.offset == b.offset && bytes_eq (identity a) (identity b))

-- two mappings are equal in all that is known of them
abbrev pub equal_mapping : MappingText → MappingText → Bool
equal_mapping a b =
    a.start == b.start
    && (a.limit == b.limit
    && (a.offset == b.offset
    && (bytes_eq a.file b.file
    && (bytes_eq a.build_id b.build_id
    && (beq a.has_functions b.has_functions
    && (beq a.has_filenames b.has_filenames
    && (beq a.has_line_numbers b.has_line_numbers && beq a.has_inline_frames b.has_inline_frames)))))))

-- lines are one where their functions, or none, are one, and line and column are equal
abbrev pub same_line : LineText → LineText → Bool
same_line a b =
    option_eq same_function a.function b.function
    && (int_eq a.line b.line && int_eq a.column b.column)

-- Locations are one where their merged mappings, or none, are equal, and distance, lines and the folded flag are equal.
abbrev pub same_location : LocationText → LocationText → Bool
same_location a b =
    option_eq equal_mapping a.mapping b.mapping
    && (a.distance == b.distance && (pointwise same_line a.lines b.lines && beq a.folded b.folded))

-- labels are one where all four parts are equal
abbrev pub same_label : LabelText → LabelText → Bool
same_label a b =
    bytes_eq a.key b.key
    && (bytes_eq a.text b.text && (int_eq a.num b.num && bytes_eq a.unit b.unit))

-- Samples are one where their locations are, and their labels, in order.
abbrev pub same_sample : SampleText → SampleText → Bool
same_sample a b = pointwise same_location a.locations b.locations && pointwise same_label a.labels b.labels

-- what a mapping becomes among these: the first that is one with it
abbrev pub first_alike : List MappingText → MappingText → MappingText
first_alike all m = unwrap_or (find (same_mapping m) all) m
