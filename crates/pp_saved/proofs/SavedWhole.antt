-- A profile that lasts is itself when it is saved without filters.
use Rattle.std.proofs.Common.{◌≡◌, ℕ, ◌-◌, ◌<◌, List, [], ◌∷◌, map, length, get_or, All, Contains, refl, sym, ap, ◌∙◌, subst, arith, append-nil}
use Rattle.std.specs.Prelude.{Option, Some, option_map, slice_get}
use Rattle.std.specs.List.{AllByRecursion, cons_option, filter, filter_map}
use Rattle.std.specs.Option.{option_map_or}
use Rattle.std.proofs.lemmas.List.{length-map}
use Rattle.std.proofs.lemmas.List.Elements.{All-tail, recursion_from_All}
use Rattle.std.proofs.lemmas.Simd.{map-map}
use Rattle.pp_model.specs.declared.frame.Frame.{Frame}
use Rattle.pp_model.specs.declared.profile.Location.{Location}
use Rattle.pp_model.specs.declared.profile.Profile.{Profile}
use Rattle.pp_model.specs.declared.profile.Sample.{Sample}
use Rattle.pp_model.specs.Conditions.{no_location, location_at, RefersTo}
use Rattle.pp_model.specs.Finders.{no_finders}
use Rattle.pp_model.specs.Frames.{stack_of}
use Rattle.pp_model.specs.Lookup.{text_of, location_with}
use Rattle.pp_model.specs.Rules.{AreNumbered, IsCompact, location_ids}
use Rattle.pp_model.specs.Defaults.{standard_filtering}
use Rattle.pp_model.proofs.CompactLemmas.{find_numbered, one_le_id, place_within}
use Rattle.pp_model.proofs.RuleLemmas.{refers_from_valid, sample_at}
use Rattle.pp_count.specs.Seeing.{filtered_stack}
use Rattle.pp_share.specs.Alike.{first_alike, same_sample}
use Rattle.pp_share.specs.Described.{LocationText, MappingText, SampleText, function_found, label_text, location_found, location_text, mapping_found, nowhere, sample_text}
use Rattle.pp_share.specs.Header.{header_of}
use Rattle.pp_share.specs.Sums.{counts, summed}
use Rattle.pp_share.specs.Written.{Contents, written}
use Rattle.pp_merge.specs.Merge.{all_mappings, all_samples, contents}
use Rattle.pp_merge.proofs.WrittenCompact.{compact_written}
use Rattle.pp_restack.specs.Stacks.{by_place, cut_location, cut_text}
use Rattle.pp_dump.specs.Saved.{cut_sample, cut_samples, saved_contents}
use Rattle.pp_dump.proofs.WholeStacks.{all_shown, groups_located, none_dropped}
use Rattle.pp_report.specs.SavedText.{IsLasting}
use Rattle.pp_saved.specs.Kept.{SavedWhole}

module _ (p : Profile) (lasts : IsLasting p) where
  numbered : AreNumbered (location_ids p)
  numbered = let compact : IsCompact p = subst IsCompact lasts.settled (compact_written (contents p [])) in compact.locations

  -- a location of the profile, written out
  abbrev whole_text : Location → LocationText
  whole_text = location_text (first_alike (all_mappings (p ∷ []))) (function_found p) (mapping_found p)

  abbrev found_text : ℕ → LocationText
  found_text = location_found (first_alike (all_mappings (p ∷ []))) p

  located : (id : ℕ) → Contains (location_ids p) id → whole_text (location_at p (id - 1)) ≡ found_text id
  located id inside =
      let within : id - 1 < length p.location = omega (arith, place_within (location_ids p) id numbered inside, length-map p.location (λ (l : Location). l.id)) in
      let found : location_with p id ≡ Some (location_at p (id - 1)) =
      find_numbered (λ (l : Location). l.id) p.location (id - 1) id no_location numbered within (omega (arith, one_le_id (location_ids p) id numbered inside)) in
      ap (λ (o : Option Location). option_map_or whole_text o nowhere) (sym found)

  all_located : (ids : List ℕ) → All (Contains (location_ids p)) ids → map whole_text (map (λ id. location_at p (id - 1)) ids) ≡ map found_text ids
  all_located [] inside = refl
  all_located (id ∷ ids) inside = λ i. located id (inside 0 0 (omega arith)) i ∷ all_located ids (All-tail (Contains (location_ids p)) id ids inside) i

  -- the locations of a sample are those of its whole stack
  stack_located : (s : Sample) → RefersTo p s → map (cut_text p) (by_place (stack_of p s)) ≡ map found_text s.location_id
  stack_located s refers =
      sym (map-map whole_text (cut_location p) (by_place (stack_of p s)))
      ∙ ap (map whole_text) (groups_located p 0 s.location_id)
      ∙ all_located s.location_id refers

  one_sample : (s : Sample) → RefersTo p s → option_map (cut_sample p no_finders s) (filtered_stack p no_finders standard_filtering s) ≡ Some (sample_text found_text (text_of p) s)
  one_sample s refers =
      ap (option_map (cut_sample p no_finders s)) (none_dropped p numbered standard_filtering refl refl s)
      ∙ (λ i. Some (record { locations = stack_located s refers i; labels = map (label_text (text_of p)) (all_shown p s.label i) }, s.value))

  each_sample : (xs : List Sample) → AllByRecursion (RefersTo p) xs
      → filter_map (λ s. option_map (cut_sample p no_finders s) (filtered_stack p no_finders standard_filtering s)) xs ≡ map (sample_text found_text (text_of p)) xs
  each_sample [] all = refl
  each_sample (s ∷ xs) all = λ i. cons_option (one_sample s all.0 i) (each_sample xs all.1 i)

  samples_are : cut_samples p no_finders standard_filtering ≡ all_samples (p ∷ [])
  samples_are =
      each_sample p.sample (recursion_from_All (RefersTo p) p.sample (λ k e within. refers_from_valid p (get_or p.sample k e) lasts.valid (sample_at p k e within)))
      ∙ sym (append-nil (map (sample_text found_text (text_of p)) p.sample))

  contents_are : saved_contents p no_finders standard_filtering ≡ contents p []
  contents_are = λ i. record {
    header = record (header_of p []) { drop_frames = sym lasts.drop i; keep_frames = sym lasts.keep i };
    samples = filter counts (summed same_sample (length p.sample_type) (samples_are i));
    first_mapping = slice_get (all_mappings (p ∷ [])) 0;
  }

-- It is itself.
pub saved_whole : SavedWhole
saved_whole p lasts = ap written (contents_are p lasts) ∙ lasts.settled
