-- The table rules of a profile: for each rule, and for each table that it is tried on, the least index where it fails.
use Rattle.std.specs.Prelude.{◌≡◌, ◌≢◌, ℕ, ◌+◌, Bool, true, false, ◌&&◌, ◌||◌, not, ◌==◌, nat_lt, ℤ, pos, negsuc, List, [], ◌∷◌, length, map, take, slice_index, Option, Some, None, if◌then◌else◌, EachIndex, position, AllPairs}
use Rattle.std.specs.List.{list_any, list_all, range_with_len}
use Rattle.pp_model.specs.declared.profile.ValueType.{ValueType}
use Rattle.pp_model.specs.declared.profile.Label.{Label}
use Rattle.pp_model.specs.declared.profile.Mapping.{Mapping}
use Rattle.pp_model.specs.declared.profile.Location.{Location}
use Rattle.pp_model.specs.declared.profile.Function.{Function}
use Rattle.pp_model.specs.declared.profile.Profile.{Profile}

-- the index of a text among n texts
abbrev pub is_text_of : ℕ → ℤ → Bool
is_text_of n (pos i) = nat_lt i n
is_text_of n (negsuc _) = false

-- the index of a text of the profile
abbrev pub is_text : Profile → ℤ → Bool
is_text p i = is_text_of (length p.text) i

-- the number is one of the list
abbrev pub stands_in : List ℕ → ℕ → Bool
stands_in ids id = list_any (λ other. other == id) ids

-- the number is 0 or one of the list
abbrev pub is_zero_or_in : List ℕ → ℕ → Bool
is_zero_or_in ids id = id == 0 || stands_in ids id

-- the least index of an item that does not pass
abbrev pub first_failing : {A : Type 0} → (A → Bool) → List A → Option ℕ
first_failing passes xs = position (λ x. not (passes x)) xs

-- index 0, unless the test passes
abbrev pub zero_unless : Bool → Option ℕ
zero_unless passes = if passes then None else Some 0

-- the least index of a number that stands earlier in the list too
abbrev pub first_repeated : List ℕ → Option ℕ
first_repeated ids =
    position (λ k. stands_in (take k ids) (slice_index ids k)) (range_with_len 0 (length ids))

-- the ids of the mappings, in order
abbrev pub mapping_ids : Profile → List ℕ
mapping_ids p = map (λ m. m.id) p.mapping

-- the ids of the functions, in order
abbrev pub function_ids : Profile → List ℕ
function_ids p = map (λ f. f.id) p.function

-- the ids of the locations, in order
abbrev pub location_ids : Profile → List ℕ
location_ids p = map (λ l. l.id) p.location

-- the list begins with an empty text
abbrev pub begins_empty : List (List ℕ) → Bool
begins_empty ([] ∷ _) = true
begins_empty ((_ ∷ _) ∷ _) = false
begins_empty [] = false

-- Rule 1: there is a text 0, and it is empty.
abbrev pub text_zero_fault : Profile → Option ℕ
text_zero_fault p = zero_unless (begins_empty p.text)

-- the text indices of the header
abbrev pub header_texts : Profile → List ℤ
header_texts p =
    p.drop_frames ∷ p.keep_frames ∷ p.period_type.kind ∷ p.period_type.unit ∷ p.default_sample_type
    ∷ p.doc_url ∷ []

-- Rule 2: each text index is in range, asked of one table after the other. First the header, as index 0.
abbrev pub header_text_fault : Profile → Option ℕ
header_text_fault p = zero_unless (list_all (is_text p) (header_texts p))

-- Rule 2: then the comments.
abbrev pub comment_text_fault : Profile → Option ℕ
comment_text_fault p = first_failing (is_text p) p.comment

-- name and unit of a sample type are texts
abbrev pub type_has_texts : Profile → ValueType → Bool
type_has_texts p t = is_text p t.kind && is_text p t.unit

-- Rule 2: then the sample types.
abbrev pub type_text_fault : Profile → Option ℕ
type_text_fault p = first_failing (type_has_texts p) p.sample_type

-- key, text and unit of a label are texts
abbrev pub label_has_texts : Profile → Label → Bool
label_has_texts p l = is_text p l.key && is_text p l.text && is_text p l.num_unit

-- Rule 2: then the samples, by their labels.
abbrev pub sample_text_fault : Profile → Option ℕ
sample_text_fault p = first_failing (λ s. list_all (label_has_texts p) s.label) p.sample

-- file and build id of a mapping are texts
abbrev pub mapping_has_texts : Profile → Mapping → Bool
mapping_has_texts p m = is_text p m.file && is_text p m.build_id

-- Rule 2: then the mappings.
abbrev pub mapping_text_fault : Profile → Option ℕ
mapping_text_fault p = first_failing (mapping_has_texts p) p.mapping

-- both names and the file of a function are texts
abbrev pub function_has_texts : Profile → Function → Bool
function_has_texts p f = is_text p f.name && is_text p f.system_name && is_text p f.filename

-- Rule 2: last the functions.
abbrev pub function_text_fault : Profile → Option ℕ
function_text_fault p = first_failing (function_has_texts p) p.function

-- Rule 3: a profile with samples has a sample type.
abbrev pub untyped_fault : Profile → Option ℕ
untyped_fault p = zero_unless (length p.sample == 0 || nat_lt 0 (length p.sample_type))

-- Rule 4: no mapping has the id 0.
abbrev pub mapping_zero_fault : Profile → Option ℕ
mapping_zero_fault p = first_failing (λ id. nat_lt 0 id) (mapping_ids p)

-- Rule 5: no mapping has the id of an earlier one.
abbrev pub mapping_repeat_fault : Profile → Option ℕ
mapping_repeat_fault p = first_repeated (mapping_ids p)

-- Rule 6: no function has the id 0.
abbrev pub function_zero_fault : Profile → Option ℕ
function_zero_fault p = first_failing (λ id. nat_lt 0 id) (function_ids p)

-- Rule 7: no function has the id of an earlier one.
abbrev pub function_repeat_fault : Profile → Option ℕ
function_repeat_fault p = first_repeated (function_ids p)

-- Rule 8: no location has the id 0.
abbrev pub location_zero_fault : Profile → Option ℕ
location_zero_fault p = first_failing (λ id. nat_lt 0 id) (location_ids p)

-- Rule 9: no location has the id of an earlier one.
abbrev pub location_repeat_fault : Profile → Option ℕ
location_repeat_fault p = first_repeated (location_ids p)

-- what a location refers to is there: its mapping and the functions of its lines
abbrev pub location_refers : Profile → Location → Bool
location_refers p l =
    is_zero_or_in (mapping_ids p) l.mapping_id
    && list_all (λ line. is_zero_or_in (function_ids p) line.function_id) l.line

-- Rule 10: each location refers to a mapping and to functions that are there, or to none.
abbrev pub location_fault : Profile → Option ℕ
location_fault p = first_failing (location_refers p) p.location

-- Rule 11: each sample's locations are there.
abbrev pub sample_fault : Profile → Option ℕ
sample_fault p = first_failing (λ s. list_all (stands_in (location_ids p)) s.location_id) p.sample

-- Rule 12: each sample has one value per sample type.
abbrev pub value_fault : Profile → Option ℕ
value_fault p = first_failing (λ s. length s.value == length p.sample_type) p.sample

-- No table rule fails.
pub record NoRuleFails (p : Profile) : Type 0 where
  pub text_zero : text_zero_fault p ≡ None
  pub header_text : header_text_fault p ≡ None
  pub comment_text : comment_text_fault p ≡ None
  pub type_text : type_text_fault p ≡ None
  pub sample_text : sample_text_fault p ≡ None
  pub mapping_text : mapping_text_fault p ≡ None
  pub function_text : function_text_fault p ≡ None
  pub untyped : untyped_fault p ≡ None
  pub mapping_zero : mapping_zero_fault p ≡ None
  pub mapping_repeat : mapping_repeat_fault p ≡ None
  pub function_zero : function_zero_fault p ≡ None
  pub function_repeat : function_repeat_fault p ≡ None
  pub location_zero : location_zero_fault p ≡ None
  pub location_repeat : location_repeat_fault p ≡ None
  pub location_reference : location_fault p ≡ None
  pub sample_reference : sample_fault p ≡ None
  pub values : value_fault p ≡ None

-- each id is its place plus 1
abbrev pub AreNumbered : List ℕ → Type 0
AreNumbered ids = EachIndex ids (λ k. slice_index ids k ≡ k + 1)

-- Each id is its place plus 1, and no two texts are the same.
pub record IsCompact (p : Profile) : Type 0 where
  pub mappings : AreNumbered (mapping_ids p)
  pub functions : AreNumbered (function_ids p)
  pub locations : AreNumbered (location_ids p)
  pub texts : AllPairs (λ a b. a ≢ b) p.text
