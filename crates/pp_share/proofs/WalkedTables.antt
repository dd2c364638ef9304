-- The walk over a profile whose tables stand once meets the locations, mappings and functions that are written of what
-- it says.
use Rattle.std.proofs.Common.{◌≡◌, ℕ, List, [], ◌∷◌, ◌++◌, Some, length, refl, sym, ap, subst, ◌∙◌}
use Rattle.std.specs.Prelude.{slice_get}
use Rattle.std.specs.List.{AllByRecursion, filter_map, flat_map, cons_option}
use Rattle.std.specs.Option.{option_to_list, unwrap_or}
use Rattle.std.specs.Cmp.{decided}
use Rattle.std.proofs.lemmas.List.{length-map}
use Rattle.pp_model.specs.declared.profile.Location.{Location}
use Rattle.pp_model.specs.declared.profile.Profile.{Profile}
use Rattle.pp_model.specs.Conditions.{no_location}
use Rattle.pp_model.specs.Lookup.{text_of, place_read}
use Rattle.pp_model.specs.FirstSight.{distinct}
use Rattle.pp_share.specs.Described.{LocationText, function_text, mapping_text, line_text, location_text, sample_text, nowhere}
use Rattle.pp_share.specs.Alike.{same_function, equal_mapping, same_location}
use Rattle.pp_share.specs.Walk.{location_refs, mapping_ref, function_refs}
use Rattle.pp_share.specs.Gathered.{location_entry}
use Rattle.pp_share.specs.Walked.{first_id, with_locations}
use Rattle.pp_share.specs.Placed.{functions_of, mappings_of, function_placed, mapping_placed, locations_of, location_placed, plain}
use Rattle.pp_share.specs.Written.{locations, mappings, functions}
use Rattle.pp_model.proofs.LookupLemmas.{no_function, no_mapping}
use Rattle.pp_share.proofs.Deciding.{function_decides, mapping_decides, location_decides}
use Rattle.pp_share.proofs.Tables.{Names, IsRef, named, IsWalk, said, read_said, walk_names, walk_told, walk_each, all_named}
use Rattle.pp_share.proofs.Lists.{filter_map_described, flat_filter_described, each_read, all_flat, option_map-same, option_cons}
use Rattle.pp_share.proofs.Ready.{LocationIn, SampleIn, IsReady}
use Rattle.pp_share.proofs.EntryLemmas.{first_read, first_within}

-- what is said of a location
abbrev pub say_location : Profile → Location → LocationText
say_location p = location_text (λ m. m) (function_placed p) (mapping_placed p)

-- the location that the id names
abbrev pub location_at : Profile → ℕ → Location
location_at p id = named p.location no_location id

-- the references to locations, mappings and functions, in the order of the walk
abbrev pub location_walk : Profile → List ℕ
location_walk p = flat_map location_refs p.sample

abbrev pub mapping_walk : Profile → List ℕ
mapping_walk p = first_id p ∷ flat_map mapping_ref (with_locations p).location

abbrev pub function_walk : Profile → List ℕ
function_walk p = flat_map function_refs (with_locations p).location

module _ (p : Profile) (ready : IsReady p) where
  abbrev say : Location → LocationText
  say = say_location p

  refs_L : AllByRecursion (IsRef (length p.location)) (location_walk p)
  refs_L =
      all_flat (IsRef (length p.location)) location_refs (SampleIn (length p.text) (length p.location))
      (λ s is. all_flat (IsRef (length p.location)) (λ id. id ∷ []) (Names (length p.location)) (λ id n. (n.1, tt)) s.location_id is.locations) p.sample ready.samples

  pub location_said : (id : ℕ) → Names (length p.location) id → location_placed (λ m. m) p id ≡ say (location_at p id)
  location_said id n = ap (λ o. unwrap_or o nowhere) (read_said say p.location no_location id n)

  locations_read : flat_map (λ s. s.0.locations) (plain p).samples ≡ filter_map (place_read (locations_of (λ m. m) p)) (location_walk p)
  locations_read =
      flat_filter_described (λ s. s.0.locations) (place_read (locations_of (λ m. m) p)) (sample_text (location_placed (λ m. m) p) (text_of p)) location_refs
      (SampleIn (length p.text) (length p.location))
      (λ s is.
      each_read (location_placed (λ m. m) p) (place_read (locations_of (λ m. m) p)) (Names (length p.location))
      (λ id n. read_said say p.location no_location id n ∙ ap Some (sym (location_said id n))) s.location_id is.locations)
      p.sample ready.samples

  pub walk_L : IsWalk same_location say p.location no_location (location_walk p) (locations (plain p))
  walk_L = record {
    laws = decided same_location location_decides;
    apart = ready.locations_apart;
    within = refs_L;
    met = ap (distinct same_location) locations_read;
  }

  pub location_in : (id : ℕ) → Names (length p.location) id → LocationIn (length p.mapping) (length p.function) (location_at p id)
  location_in id n = all_named (LocationIn (length p.mapping) (length p.function)) p.location no_location id ready.locations n

  -- references of the locations that are kept
  refs_kept : (n : ℕ) (refs : Location → List ℕ) → ((id : ℕ) → Names (length p.location) id → AllByRecursion (IsRef n) (refs (location_entry (location_at p id) id)))
      → AllByRecursion (IsRef n) (flat_map refs (with_locations p).location)
  refs_kept n refs each =
      subst (AllByRecursion (IsRef n)) (sym (walk_each walk_L location_entry refs))
      (all_flat (IsRef n) (λ id. refs (location_entry (location_at p id) id)) (Names (length p.location)) each _ (walk_names walk_L))

  mappings_read : option_to_list (slice_get (mappings_of p) 0) ++ filter_map (λ l. l.mapping) (locations (plain p)) ≡ filter_map (place_read (mappings_of p)) (mapping_walk p)
  mappings_read =
      option_cons (slice_get (mappings_of p) 0) (filter_map (λ l. l.mapping) (locations (plain p)))
      ∙ (λ j. cons_option (sym (first_read (mappings_of p) (length p.mapping) (sym (length-map p.mapping (mapping_text p)))) j) (others j))
    where
      others : filter_map (λ l. l.mapping) (locations (plain p)) ≡ filter_map (place_read (mappings_of p)) (flat_map mapping_ref (with_locations p).location)
      others =
          ap (filter_map (λ (l : LocationText). l.mapping)) (walk_told walk_L)
          ∙ filter_map_described (λ l. l.mapping) (place_read (mappings_of p)) (said say p.location no_location) (λ id. (location_at p id).mapping_id)
          (λ id. option_map-same (mapping_placed p (location_at p id).mapping_id)) _
          ∙ ap (filter_map (place_read (mappings_of p))) (sym (walk_each walk_L location_entry mapping_ref))

  pub walk_M : IsWalk equal_mapping (mapping_text p) p.mapping no_mapping (mapping_walk p) (mappings (plain p))
  walk_M = record {
    laws = decided equal_mapping mapping_decides;
    apart = ready.mappings_apart;
    within = (first_within p.mapping (length p.mapping) refl, refs_kept (length p.mapping) mapping_ref (λ id n. ((location_in id n).mapping, tt)));
    met = ap (distinct equal_mapping) mappings_read;
  }

  functions_read : flat_map (λ l. filter_map (λ line. line.function) l.lines) (locations (plain p)) ≡ filter_map (place_read (functions_of p)) (function_walk p)
  functions_read =
      ap (flat_map (λ (l : LocationText). filter_map (λ line. line.function) l.lines)) (walk_told walk_L)
      ∙ flat_filter_described (λ l. filter_map (λ line. line.function) l.lines) (place_read (functions_of p)) (said say p.location no_location) (λ id. function_refs (location_at p id))
      (Names (length p.location))
      (λ id _. filter_map_described (λ line. line.function) (place_read (functions_of p)) (line_text (function_placed p)) (λ line. line.function_id) (λ line. refl) (location_at p id).line)
      _ (walk_names walk_L)
      ∙ ap (filter_map (place_read (functions_of p))) (sym (walk_each walk_L location_entry function_refs))

  pub walk_F : IsWalk same_function (function_text p) p.function no_function (function_walk p) (functions (plain p))
  walk_F = record {
    laws = decided same_function function_decides;
    apart = ready.functions_apart;
    within =
        refs_kept (length p.function) function_refs
        (λ id n. all_flat (IsRef (length p.function)) (λ line. line.function_id ∷ []) (λ line. IsRef (length p.function) line.function_id) (λ line is. (is, tt)) (location_at p id).line (location_in id n).lines);
    met = ap (distinct same_function) functions_read;
  }
