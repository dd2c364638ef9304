-- What the stack of a sample stands for, told from what the sample says.
use Rattle.std.proofs.Common.{◌≡◌, ℕ, suc, ◌+◌, ◌-◌, ◌<◌, ◌^◌, Bool, true, false, cond, not, ◌||◌, ◌==◌, pos, List, [], ◌∷◌, ◌++◌, length, map, All, Option, Some, None, option_map, refl, sym, ap, ◌∙◌, arith}
use Rattle.std.specs.Prelude.{Contains}
use Rattle.std.specs.List.{AllByRecursion, range_with_len}
use Rattle.std.specs.Option.{option_map_or}
use Rattle.std.proofs.lemmas.List.{map-append}
use Rattle.std.proofs.lemmas.List.Elements.{All-head, All-tail}
use Rattle.pp_model.specs.declared.grouping.Grain.{Grain}
use Rattle.pp_model.specs.declared.grouping.Grain.TheVariants.{Functions, FileFunctions, Files, Lines, Addresses}
use Rattle.pp_model.specs.declared.frame.Frame.{Frame}
use Rattle.pp_model.specs.declared.profile.Line.{Line}
use Rattle.pp_model.specs.declared.profile.Location.{Location}
use Rattle.pp_model.specs.declared.profile.Mapping.{Mapping}
use Rattle.pp_model.specs.declared.profile.Function.{Function}
use Rattle.pp_model.specs.declared.profile.Profile.{Profile}
use Rattle.pp_model.specs.Conditions.{no_location, location_at}
use Rattle.pp_model.specs.Lookup.{text_at, text_number, function_with, mapping_with, location_with}
use Rattle.pp_model.specs.Frames.{rows, row_frame, frames_from}
use Rattle.pp_model.specs.FrameTexts.{Written, written, name_number, file_number, object_number, written_line, written_lines, written_at}
use Rattle.pp_model.specs.Rules.{AreNumbered, location_ids}
use Rattle.pp_model.proofs.CompactLemmas.{find_numbered, place_within, one_le_id}
use Rattle.pp_model.proofs.FrameLemmas.{written_found}
use Rattle.pp_share.specs.Described.{FunctionText, MappingText, LineText, LocationText, function_text, mapping_text, line_text, function_found, mapping_found, location_text, location_found, nowhere, less, plus, start_of}
use Rattle.pp_merge.proofs.SettledLemmas.{found_holds}
use Rattle.pp_count.specs.Seeing.{counted_frames}

-- the frame of a line of a location at this address in this object
abbrev pub told_line : ℕ → List ℕ → LineText → Written
told_line address object line = record {
  function = option_map_or (λ f. f.name) line.function [];
  file = option_map_or (λ f. f.file) line.function [];
  line = line.line;
  column = line.column;
  address = address;
  object = object;
}

-- the frame of a location without lines
abbrev pub told_nameless : ℕ → List ℕ → Written
told_nameless address object =
    record { function = []; file = []; line = pos 0; column = pos 0; address = address; object = object }

abbrev pub told_lines : ℕ → List ℕ → List LineText → List Written
told_lines address object [] = told_nameless address object ∷ []
told_lines address object (line ∷ lines) = map (told_line address object) (line ∷ lines)

-- where a location lies
abbrev pub told_address : LocationText → ℕ
told_address l = plus l.distance (start_of l.mapping)

-- the file of a mapping
abbrev pub file_of : Option MappingText → List ℕ
file_of mapping = option_map_or (λ m. m.file) mapping []

-- the frames of a location
abbrev pub told_location : LocationText → List Written
told_location l = told_lines (told_address l) (file_of l.mapping) l.lines

-- what keys of the grain tell of an address
abbrev pub address_by : Grain → ℕ → ℕ
address_by Functions address = 0
address_by FileFunctions address = 0
address_by Files address = 0
address_by Lines address = 0
address_by Addresses address = address

-- the frame with what keys of the grain tell of its address
abbrev pub located_by : Grain → Written → Written
located_by grain w = record w { address = address_by grain w.address }

each_by : (grain : Grain) (address : ℕ) (object : List ℕ) (lines : List LineText) → map (located_by grain) (map (told_line address object) lines) ≡ map (told_line (address_by grain address) object) lines
each_by grain address object [] = refl
each_by grain address object (line ∷ lines) = ap (λ r. told_line (address_by grain address) object line ∷ r) (each_by grain address object lines)

lines_by : (grain : Grain) (address : ℕ) (object : List ℕ) (lines : List LineText) → map (located_by grain) (told_lines address object lines) ≡ told_lines (address_by grain address) object lines
lines_by grain address object [] = refl
lines_by grain address object (line ∷ lines) = each_by grain address object (line ∷ lines)

-- the frames of a location, as keys of the grain see them
abbrev pub told_by : Grain → LocationText → List Written
told_by grain l = told_lines (address_by grain (told_address l)) (file_of l.mapping) l.lines

-- a frame with the place of its location in the sample
abbrev pub at_place : ℕ → Written → ℕ × Written
at_place place w = (place, w)

-- the frames of locations, of which the first has this place
abbrev pub told_from : Grain → ℕ → List LocationText → List (ℕ × Written)
told_from grain place [] = []
told_from grain place (l ∷ ls) = map (at_place place) (told_by grain l) ++ told_from grain (place + 1) ls

-- no frame of the same place follows
abbrev pub ends_place : ℕ → List (ℕ × Written) → Bool
ends_place place [] = true
ends_place place (x ∷ xs) = not (x.0 == place)

-- the frames that count
abbrev pub told_counted : Bool → List (ℕ × Written) → List Written
told_counted noinlines [] = []
told_counted noinlines (x ∷ xs) =
    cond (not noinlines || ends_place x.0 xs) (x.1 ∷ told_counted noinlines xs) (told_counted noinlines xs)

distance_back : (a s : ℕ) → a < 2 ^ 64 → a ≡ plus (less a s) s
distance_back a s small = omega (arith, small)

module _ (grain : Grain) (p : Profile) where
  -- the frame with its place
  abbrev pub placed : Frame → ℕ × Written
  placed f = (f.place, located_by grain (written p f))

  pub counted_told : (noinlines : Bool) (stack : List Frame) → map (λ x. located_by grain (written p x)) (counted_frames noinlines stack) ≡ told_counted noinlines (map placed stack)
  counted_told noinlines [] = refl
  counted_told noinlines (f ∷ []) = elim (not noinlines || true) as (λ b. map (λ x. located_by grain (written p x)) (cond b (f ∷ []) []) ≡ cond b (located_by grain (written p f) ∷ []) []) [ true ↦ refl | false ↦ refl ]
  counted_told noinlines (f ∷ g ∷ stack) =
      let rest : map (λ x. located_by grain (written p x)) (counted_frames noinlines (g ∷ stack)) ≡ told_counted noinlines (map placed (g ∷ stack)) = counted_told noinlines (g ∷ stack) in
      elim (not noinlines || not (g.place == f.place)) as (λ b. map (λ x. located_by grain (written p x)) (cond b (f ∷ counted_frames noinlines (g ∷ stack)) (counted_frames noinlines (g ∷ stack)))
      ≡ cond b (located_by grain (written p f) ∷ told_counted noinlines (map placed (g ∷ stack))) (told_counted noinlines (map placed (g ∷ stack)))) [
        | true ↦ ap (λ r. located_by grain (written p f) ∷ r) rest
        | false ↦ rest
      ]

  rows_placed : (place location : ℕ) (ns : List ℕ) → map placed (map (row_frame place location) ns) ≡ map (at_place place) (map (located_by grain) (map (written p) (map (row_frame place location) ns)))
  rows_placed place location [] = refl
  rows_placed place location (n ∷ ns) = ap (λ r. placed (row_frame place location n) ∷ r) (rows_placed place location ns)

  lines_placed : (place location : ℕ) (lines : List Line) → map placed (rows place location lines) ≡ map (at_place place) (map (located_by grain) (map (written p) (rows place location lines)))
  lines_placed place location [] = refl
  lines_placed place location (line ∷ lines) = rows_placed place location (range_with_len 0 (length (line ∷ lines)))

module _ (p : Profile) (become : MappingText → MappingText) (self : (id : ℕ) → option_map become (mapping_found p id) ≡ mapping_found p id)
    (none : text_at p 0 ≡ []) (numbered : AreNumbered (location_ids p)) (small : AllByRecursion (λ l. l.address < 2 ^ 64) p.location) where
  -- the location, as it is said
  abbrev said_location : Location → LocationText
  said_location l = location_text become (function_found p) (mapping_found p) l

  address_told : (l : Location) → l.address < 2 ^ 64 → l.address ≡ told_address (said_location l)
  address_told l fits = distance_back l.address (start_of (mapping_found p l.mapping_id)) fits
      ∙ ap (λ m. plus (less l.address (start_of (mapping_found p l.mapping_id))) (start_of m)) (sym (self l.mapping_id))

  object_told : (l : Location) → text_at p (object_number p l) ≡ file_of (said_location l).mapping
  object_told l =
      elim (mapping_with p l.mapping_id) as (λ (o : Option Mapping). text_at p (option_map_or (λ m. text_number m.file) o 0) ≡ option_map_or (λ (m : MappingText). m.file) (option_map (mapping_text p) o) []) [
        | None ↦ none
        | Some m ↦ refl
      ] ∙ ap (λ (o : Option MappingText). option_map_or (λ (m : MappingText). m.file) o []) (sym (self l.mapping_id))

  name_told : (line : Line) → text_at p (name_number p line) ≡ option_map_or (λ (f : FunctionText). f.name) (function_found p line.function_id) []
  name_told line = elim (function_with p line.function_id) as (λ (o : Option Function). text_at p (option_map_or (λ f. text_number f.name) o 0) ≡ option_map_or (λ (f : FunctionText). f.name) (option_map (function_text p) o) []) [
    | None ↦ none
    | Some f ↦ refl
  ]

  file_told : (line : Line) → text_at p (file_number p line) ≡ option_map_or (λ (f : FunctionText). f.file) (function_found p line.function_id) []
  file_told line = elim (function_with p line.function_id) as (λ (o : Option Function). text_at p (option_map_or (λ f. text_number f.filename) o 0) ≡ option_map_or (λ (f : FunctionText). f.file) (option_map (function_text p) o) []) [
    | None ↦ none
    | Some f ↦ refl
  ]

  line_told : (l : Location) → l.address < 2 ^ 64 → (line : Line) → written_line p l line ≡ told_line (told_address (said_location l)) (file_of (said_location l).mapping) (line_text (function_found p) line)
  line_told l fits line = λ i. record {
    function = name_told line i;
    file = file_told line i;
    line = line.line;
    column = line.column;
    address = address_told l fits i;
    object = object_told l i;
  }

  each_told : (l : Location) → l.address < 2 ^ 64 → (lines : List Line) → map (written_line p l) lines ≡ map (told_line (told_address (said_location l)) (file_of (said_location l).mapping)) (map (line_text (function_found p)) lines)
  each_told l fits [] = refl
  each_told l fits (line ∷ lines) = λ i. line_told l fits line i ∷ each_told l fits lines i

  lines_told : (l : Location) → l.address < 2 ^ 64 → (lines : List Line) → written_lines p l lines ≡ told_lines (told_address (said_location l)) (file_of (said_location l).mapping) (map (line_text (function_found p)) lines)
  lines_told l fits [] = λ i. record { function = none i; file = none i; line = pos 0; column = pos 0; address = address_told l fits i; object = object_told l i } ∷ []
  lines_told l fits (line ∷ lines) = each_told l fits (line ∷ lines)

  -- the frames of a location that is there
  located : (id : ℕ) → Contains (location_ids p) id → written_at p id ≡ told_location (location_found become p id)
  located id inside =
      let l : Location = location_at p (id - 1) in
      let within : id - 1 < length p.location = omega (arith, place_within (location_ids p) id numbered inside, length_ids) in
      let is : location_with p id ≡ Some l = find_numbered (λ (x : Location). x.id) p.location (id - 1) id no_location numbered within (omega (arith, one_le_id (location_ids p) id numbered inside)) in
      let fits : l.address < 2 ^ 64 = (found_holds (λ (x : Location). x.address < 2 ^ 64) (λ x. x.id == id) p.location small l is).0 in
      ap (λ (o : Option Location). option_map_or (λ x. written_lines p x x.line) o []) is
      ∙ lines_told l fits l.line
      ∙ ap (λ (o : Option Location). told_location (option_map_or said_location o nowhere)) (sym is) where
        length_map : {A B : Type 0} (f : A → B) (xs : List A) → length (map f xs) ≡ length xs
        length_map f [] = refl
        length_map f (x ∷ xs) = ap suc (length_map f xs)

        length_ids : length (location_ids p) ≡ length p.location
        length_ids = length_map (λ (x : Location). x.id) p.location

  -- The stack with its places is told from the locations.
  pub frames_told : (grain : Grain) (place : ℕ) (ids : List ℕ) → All (Contains (location_ids p)) ids
      → map (placed grain p) (frames_from p place ids) ≡ told_from grain place (map (location_found become p) ids)
  frames_told grain place [] inside = refl
  frames_told grain place (id ∷ ids) inside =
      let here : Contains (location_ids p) id = All-head (Contains (location_ids p)) id ids inside in
      let said : LocationText = location_found become p id in
      map-append (placed grain p) (rows place (id - 1) (location_at p (id - 1)).line) (frames_from p (place + 1) ids)
      ∙ (λ i. (lines_placed grain p place (id - 1) (location_at p (id - 1)).line
      ∙ ap (λ ws. map (at_place place) (map (located_by grain) ws)) (written_found p place id numbered here ∙ located id here)
      ∙ ap (map (at_place place)) (lines_by grain (told_address said) (file_of said.mapping) said.lines)) i
      ++ frames_told grain (place + 1) ids (All-tail (Contains (location_ids p)) id ids inside) i)

address_same : (grain : Grain) (distance a b : ℕ) → (grain ≡ Addresses → a ≡ b) → address_by grain (plus distance a) ≡ address_by grain (plus distance b)
address_same Functions distance a b same = refl
address_same FileFunctions distance a b same = refl
address_same Files distance a b same = refl
address_same Lines distance a b same = refl
address_same Addresses distance a b same = ap (plus distance) (same refl)

-- Where mappings become others of the same file, and of the same start where keys tell addresses, one stack is told.
module _ (grain : Grain) (p : Profile) (first second : MappingText → MappingText)
    (starts : (id : ℕ) → grain ≡ Addresses → start_of (option_map first (mapping_found p id)) ≡ start_of (option_map second (mapping_found p id)))
    (files : (id : ℕ) → file_of (option_map first (mapping_found p id)) ≡ file_of (option_map second (mapping_found p id))) where
  same_location_told : (id : ℕ) → told_by grain (location_found first p id) ≡ told_by grain (location_found second p id)
  same_location_told id =
      elim (location_with p id) as (λ (o : Option Location). told_by grain (option_map_or (location_text first (function_found p) (mapping_found p)) o nowhere)
      ≡ told_by grain (option_map_or (location_text second (function_found p) (mapping_found p)) o nowhere)) [
        | None ↦ refl
        | Some l ↦ λ i. told_lines
            (address_same grain (less l.address (start_of (mapping_found p l.mapping_id))) (start_of (option_map first (mapping_found p l.mapping_id))) (start_of (option_map second (mapping_found p l.mapping_id))) (starts l.mapping_id) i)
            (files l.mapping_id i) (map (line_text (function_found p)) l.line)
      ]

  pub same_told : (place : ℕ) (ids : List ℕ) → told_from grain place (map (location_found first p) ids) ≡ told_from grain place (map (location_found second p) ids)
  same_told place [] = refl
  same_told place (id ∷ ids) = λ i. map (at_place place) (same_location_told id i) ++ same_told (place + 1) ids i
