-- What an index of a text and the id of an entry name.
use Rattle.std.specs.Prelude.{ℕ, ◌-◌, ◌==◌, ℤ, pos, negsuc, List, [], find, slice_get, slice_index_or, Option, None, if◌then◌else◌}
use Rattle.pp_model.specs.declared.profile.Mapping.{Mapping}
use Rattle.pp_model.specs.declared.profile.Location.{Location}
use Rattle.pp_model.specs.declared.profile.Function.{Function}
use Rattle.pp_model.specs.declared.profile.Profile.{Profile}

-- the index as a place in the list of texts
abbrev pub text_number : ℤ → ℕ
text_number (pos i) = i
text_number (negsuc _) = 0

-- the text at the place
abbrev pub text_at : Profile → ℕ → List ℕ
text_at p i = slice_index_or p.text i []

-- the text of an index, which is text 0 where the index is negative
abbrev pub text_of : Profile → ℤ → List ℕ
text_of p index = text_at p (text_number index)

-- the first mapping with the id
abbrev pub mapping_with : Profile → ℕ → Option Mapping
mapping_with p id = find (λ m. m.id == id) p.mapping

-- the first function with the id
abbrev pub function_with : Profile → ℕ → Option Function
function_with p id = find (λ f. f.id == id) p.function

-- the first location with the id
abbrev pub location_with : Profile → ℕ → Option Location
location_with p id = find (λ l. l.id == id) p.location

-- the item whose place plus 1 is the id, and none for 0
abbrev pub place_read : {X : Type 0} → List X → ℕ → Option X
place_read xs id = if id == 0 then None else slice_get xs (id - 1)
