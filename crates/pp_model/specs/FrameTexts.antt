-- The stack of a sample written out in texts.
use Rattle.std.specs.Prelude.{◌≡◌, ℕ, ℤ, pos, List, [], ◌∷◌, map}
use Rattle.std.specs.List.{flat_map}
use Rattle.std.specs.Option.{option_map_or}
use Rattle.pp_model.specs.declared.profile.Sample.{Sample}
use Rattle.pp_model.specs.declared.profile.Line.{Line}
use Rattle.pp_model.specs.declared.profile.Location.{Location}
use Rattle.pp_model.specs.declared.profile.Profile.{Profile}
use Rattle.pp_model.specs.declared.frame.Frame.{Frame}
use Rattle.pp_model.specs.Lookup.{text_number, text_at, mapping_with, function_with, location_with}
use Rattle.pp_model.specs.Frames.{function_index, file_index, object_index, line_number, column_number, address_number}

-- What a frame stands for: texts and numbers, each empty or 0 where not known. The object is the mapping's file.
pub record Written : Type 0 where
  pub function : List ℕ
  pub file : List ℕ
  pub line : ℤ
  pub column : ℤ
  pub address : ℕ
  pub object : List ℕ

-- the text index of the file of the location's mapping, 0 where none is known
abbrev pub object_number : Profile → Location → ℕ
object_number p location =
    option_map_or (λ m. text_number m.file) (mapping_with p location.mapping_id) 0

-- the text index of the name of the line's function, 0 where none is known
abbrev pub name_number : Profile → Line → ℕ
name_number p line = option_map_or (λ f. text_number f.name) (function_with p line.function_id) 0

-- the text index of the file of the line's function, 0 where none is known
abbrev pub file_number : Profile → Line → ℕ
file_number p line =
    option_map_or (λ f. text_number f.filename) (function_with p line.function_id) 0

-- the frame of one line of the location
abbrev pub written_line : Profile → Location → Line → Written
written_line p location line = record {
  function = text_at p (name_number p line);
  file = text_at p (file_number p line);
  line = line.line;
  column = line.column;
  address = location.address;
  object = text_at p (object_number p location);
}

-- the frame of a location without lines
abbrev pub nameless : Profile → Location → Written
nameless p location = record {
  function = text_at p 0;
  file = text_at p 0;
  line = pos 0;
  column = pos 0;
  address = location.address;
  object = text_at p (object_number p location);
}

-- the frames of a location with these lines, the innermost first
abbrev pub written_lines : Profile → Location → List Line → List Written
written_lines p location [] = nameless p location ∷ []
written_lines p location (line ∷ lines) = map (written_line p location) (line ∷ lines)

-- the frames of the location with the id
abbrev pub written_at : Profile → ℕ → List Written
written_at p id =
    option_map_or (λ location. written_lines p location location.line) (location_with p id) []

-- The stack of the sample, written out, leaf first.
abbrev pub written_stack : Profile → Sample → List Written
written_stack p s = flat_map (written_at p) s.location_id

-- What the frame stands for.
abbrev pub written : Profile → Frame → Written
written p f = record {
  function = text_at p (function_index p f);
  file = text_at p (file_index p f);
  line = line_number p f;
  column = column_number p f;
  address = address_number p f;
  object = text_at p (object_index p f);
}

-- The frames as places stand for the sample's frames in texts.
abbrev pub StandsFor : Profile → List Frame → Sample → Type 0
StandsFor p stack s = map (written p) stack ≡ written_stack p s
