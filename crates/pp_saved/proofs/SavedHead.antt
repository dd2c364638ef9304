-- What the head of a report says of a saved profile.
use Rattle.std.proofs.Common.{◌≡◌, ℕ, Bool, true, false, List, [], ◌∷◌, ◌++◌, map, refl, sym, ap, ◌∙◌}
use Rattle.std.specs.Prelude.{Option, Some, None, option_map, slice_get, find, ◌==◌, if◌then◌else◌}
use Rattle.std.specs.List.{AllByRecursion, filter_map, cons_option, list_any}
use Rattle.std.specs.Option.{option_and_then, option_map_or, option_to_list}
use Rattle.pp_model.specs.declared.frame.Frame.{Frame}
use Rattle.pp_model.specs.declared.profile.Mapping.{Mapping}
use Rattle.pp_model.specs.declared.profile.Profile.{Profile}
use Rattle.pp_model.specs.declared.filtering.Filtering.{Filtering}
use Rattle.pp_model.specs.Finders.{Finders}
use Rattle.pp_model.specs.Lookup.{text_of}
use Rattle.pp_share.specs.Alike.{equal_mapping, first_alike}
use Rattle.pp_share.specs.Described.{MappingText, LocationText, mapping_text}
use Rattle.pp_model.specs.FirstSight.{distinct, seen_after}
use Rattle.pp_share.specs.Header.{HeaderText, header_of}
use Rattle.pp_merge.specs.Merge.{all_mappings, merged}
use Rattle.pp_share.specs.Written.{Contents, written, written_mapping, mappings, locations}
use Rattle.pp_merge.proofs.RoundTrip.{IsText, text_again}
use Rattle.pp_merge.proofs.WrittenValid.{texts_of_mappings}
use Rattle.pp_restack.specs.Stacks.{cut_location, cut_text, patternless}
use Rattle.pp_dump.specs.Saved.{saved_contents, saved}
use Rattle.pp_report.specs.Heads.{column_type, first_file}
use Rattle.pp_saved.proofs.CutSamples.{locations_each}

-- The types are those of the profile.
pub same_type : (p q : Profile) (column : Option ℕ) → header_of q [] ≡ patternless p → column_type q column ≡ column_type p column
same_type p q column header = ap (λ (h : HeaderText). option_and_then (slice_get h.types) column) header

-- So is the duration of a profile that stays as it is when it is merged alone.
pub same_duration : (p : Profile) (f : Finders) (filtering : Filtering) → merged p [] ≡ p → (saved p f filtering).duration_nanos ≡ p.duration_nanos
same_duration p f filtering settled = ap (λ (r : Profile). r.duration_nanos) settled

-- what was seen first stays first
first_stays : (x : MappingText) (seen xs : List MappingText) → slice_get (seen_after equal_mapping (x ∷ seen) xs) 0 ≡ Some x
first_stays x seen [] = refl
first_stays x seen (y ∷ ys) = by (list_any (equal_mapping y) (x ∷ seen)) (λ more. first_stays x more ys)
  where
    by : (b : Bool) → ((more : List MappingText) → slice_get (seen_after equal_mapping (x ∷ more) ys) 0 ≡ Some x)
        → slice_get (seen_after equal_mapping (if b then x ∷ seen else (x ∷ seen) ++ y ∷ []) ys) 0 ≡ Some x
    by true go = go seen
    by false go = go (seen ++ y ∷ [])

-- the file of the first of these, or nothing
abbrev file_in : List MappingText → List ℕ
file_in ms = option_map_or (λ (m : MappingText). m.file) (slice_get ms 0) []

-- of a profile that is written, the first mapping's file
written_file : (c : Contents) → first_file (written c) ≡ file_in (mappings c)
written_file c = by (mappings c) (texts_of_mappings c)
  where
    by : (ms : List MappingText) → AllByRecursion (λ m. AllByRecursion (IsText c) (m.file ∷ m.build_id ∷ [])) ms
        → option_map_or (λ (m : Mapping). text_of (written c) m.file) (slice_get (map (written_mapping c) ms) 0) [] ≡ file_in ms
    by [] all = refl
    by (m ∷ ms) all = text_again c m.file all.0.0

none_some : {A B : Type 0} (g : A → Option B) (xs : List A) → AllByRecursion (λ x. g x ≡ None) xs → filter_map g xs ≡ []
none_some g [] all = refl
none_some g (x ∷ xs) all = (λ i. cons_option (all.0 i) (none_some g xs all.1 i))

module _ (p : Profile) (f : Finders) (filtering : Filtering) where
  abbrev c : Contents
  c = saved_contents p f filtering

  abbrev Unmapped : LocationText → Type 0
  Unmapped l = l.mapping ≡ None

  -- where there is no mapping, no location that is cut has any
  cut_unmapped : p.mapping ≡ [] → (group : List Frame) → Unmapped (cut_text p group)
  cut_unmapped none group =
      ap (λ (ms : List Mapping). option_map (first_alike (all_mappings (p ∷ []))) (option_map (mapping_text p) (find (λ m. m.id == (cut_location p group).mapping_id) ms))) none

  -- The first mapping's file is that of the profile.
  pub same_file : first_file (saved p f filtering) ≡ first_file p
  same_file = written_file c ∙ by p.mapping refl
    where
      rest : List MappingText
      rest = filter_map (λ (l : LocationText). l.mapping) (locations c)

      by : (ms : List Mapping) → p.mapping ≡ ms → file_in (mappings c) ≡ first_file p
      by [] is =
          (λ i. file_in (distinct equal_mapping (option_to_list (slice_get (map (mapping_text p) (is i) ++ []) 0) ++ rest)))
          ∙ ap (λ (ms : List MappingText). file_in (distinct equal_mapping ms))
          (none_some (λ (l : LocationText). l.mapping) (locations c) (locations_each p f filtering Unmapped (cut_unmapped is)))
          ∙ ap (λ (ms : List Mapping). option_map_or (λ (m : Mapping). text_of p m.file) (slice_get ms 0) []) (sym is)
      by (m ∷ ms) is =
          (λ i. file_in (distinct equal_mapping (option_to_list (slice_get (map (mapping_text p) (is i) ++ []) 0) ++ rest)))
          ∙ ap (λ (o : Option MappingText). option_map_or (λ (t : MappingText). t.file) o []) (first_stays (mapping_text p m) [] rest)
          ∙ ap (λ (ns : List Mapping). option_map_or (λ (t : Mapping). text_of p t.file) (slice_get ns 0) []) (sym is)
