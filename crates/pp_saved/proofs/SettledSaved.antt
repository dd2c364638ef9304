-- What a saved profile says is settled: nothing of it is left to be merged.
use Rattle.std.proofs.Common.{◌≡◌, ℕ, ◌<◌, ◌^◌, ℤ, true, false, List, [], ◌∷◌, map, length, get_or, refl, sym, ap, ◌∙◌, subst, append-nil}
use Rattle.std.specs.Prelude.{Option, Some, None, option_map, slice_get, find, ◌==◌}
use Rattle.std.specs.List.{AllByRecursion, IsDistinct, filter_map}
use Rattle.std.specs.Option.{option_to_list}
use Rattle.std.proofs.lemmas.Bool.{false≢true}
use Rattle.std.proofs.lemmas.List.{length-map}
use Rattle.std.proofs.lemmas.List.Elements.{recursion_from_All, filter_passes}
use Rattle.std.proofs.lemmas.List.Folds.{list_any_at}
use Rattle.std.proofs.lemmas.Map.Keys.{IsDistinct-cons, IsDistinct-head, IsDistinct-tail}
use Rattle.std.proofs.lemmas.Map.Made.{IsDistinct-keys_filter}
use Rattle.std.proofs.lemmas.Option.{none-some, same_Some}
use Rattle.pp_base.proofs.Lists.{all_by}
use Rattle.pp_model.specs.declared.frame.Frame.{Frame}
use Rattle.pp_model.specs.declared.profile.Mapping.{Mapping}
use Rattle.pp_model.specs.declared.profile.Profile.{Profile}
use Rattle.pp_model.specs.declared.filtering.Filtering.{Filtering}
use Rattle.pp_model.specs.Finders.{Finders}
use Rattle.pp_share.specs.Alike.{same_mapping, equal_mapping, same_sample}
use Rattle.pp_share.specs.Described.{MappingText, LocationText, SampleText, mapping_text, mapping_found}
use Rattle.pp_model.specs.FirstSight.{distinct}
use Rattle.pp_share.specs.Header.{type_text}
use Rattle.pp_merge.specs.Merge.{all_mappings, contents, merged}
use Rattle.pp_merge.specs.Settled.{IsSettled}
use Rattle.pp_share.specs.Sums.{counts, keys_of, summed, sum_of}
use Rattle.pp_share.specs.Written.{Contents, mappings, locations}
use Rattle.pp_share.proofs.Deciding.{mapping_decides, sample_decides}
use Rattle.pp_share.proofs.DistinctLemmas.{deciding_laws}
use Rattle.pp_model.proofs.FirstSightLemmas.{IsSeen, distinct_apart}
use Rattle.pp_share.proofs.MergedMapping.{mapping_laws, IsFound, alike_tells}
use Rattle.pp_share.proofs.NumberedLemmas.{all_both}
use Rattle.pp_merge.proofs.SettledLemmas.{all_any, all_distinct, all_join, all_some, all_unmapped, found_holds, less_small, no_column, self_found, settled_contents}
use Rattle.pp_merge.proofs.WrittenAgain.{alike_self, at_seen, map_back, mappings_back}
use Rattle.pp_merge.proofs.WrittenCompact.{mapping_walk}
use Rattle.pp_merge.proofs.WrittenPlaces.{mappings_stay}
use Rattle.pp_restack.specs.Stacks.{cut_location, cut_text}
use Rattle.pp_dump.specs.Saved.{cut_samples, saved_contents}
use Rattle.pp_saved.proofs.CutSamples.{locations_each, rows_long}

first_of : (P : MappingText → Type 0) (ms : List MappingText) → AllByRecursion P ms → AllByRecursion P (option_to_list (slice_get ms 0))
first_of P [] all = tt
first_of P (m ∷ ms) all = (all.0, tt)

-- where there is no first mapping, none is among them
none_among : (all ms : List MappingText) → slice_get all 0 ≡ None → AllByRecursion (IsSeen equal_mapping all) ms → ms ≡ []
none_among [] [] is seen = refl
none_among [] (m ∷ ms) is seen = absurd (false≢true seen.0)
none_among (x ∷ xs) ms is seen = absurd (none-some x (sym is))

module _ (p : Profile) (starts : AllByRecursion (λ m. m.start < 2 ^ 64) (all_mappings (p ∷ []))) (again : merged p [] ≡ p) where
  abbrev all : List MappingText
  all = all_mappings (p ∷ [])

  own_settled : IsSettled (contents p [])
  own_settled = settled_contents p [] starts

  all_apart : IsDistinct same_mapping all
  all_apart = subst (IsDistinct same_mapping) (sym (mappings_back (contents p []) own_settled) ∙ ap (λ (r : Profile). all_mappings (r ∷ [])) again) own_settled.mapped

  -- the mapping is one of the profile
  abbrev Among : MappingText → Type 0
  Among = IsSeen equal_mapping all

  self : AllByRecursion Among all
  self =
      recursion_from_All Among all (λ k d within.
      list_any_at (equal_mapping (get_or all k d)) all k d within ((deciding_laws equal_mapping mapping_decides).refl (get_or all k d)))

  own : AllByRecursion (λ m. Among (mapping_text p m)) p.mapping
  own = all_unmapped Among (mapping_text p) p.mapping (subst (AllByRecursion Among) (append-nil (map (mapping_text p) p.mapping)) self)

  found_among : (id : ℕ) (m : MappingText) → mapping_found p id ≡ Some m → Among m
  found_among id m = by (find (λ (x : Mapping). x.id == id) p.mapping) refl
    where
      by : (o : Option Mapping) → find (λ (x : Mapping). x.id == id) p.mapping ≡ o → option_map (mapping_text p) o ≡ Some m → Among m
      by None at is = absurd (none-some m is)
      by (Some x) at is =
          subst Among (same_Some (mapping_text p x) m is)
          (found_holds (λ (y : Mapping). Among (mapping_text p y)) (λ (y : Mapping). y.id == id) p.mapping own x at).0

  -- what is known of a location that is cut
  abbrev Fine : LocationText → Type 0
  Fine l = ((m : MappingText) → l.mapping ≡ Some m → Among m) × (l.distance < 2 ^ 64)

  cut_fine : (group : List Frame) → Fine (cut_text p group)
  cut_fine group =
      let l = cut_location p group in
      (λ m is. found_among l.mapping_id m (sym (mappings_stay p starts again l.mapping_id) ∙ is), less_small l.address _)

  -- mappings of the profile that are not equal are not one
  differ : (x y : MappingText) → Among x → Among y → equal_mapping x y ≡ false → same_mapping x y ≡ false
  differ x y first second apart =
      sym (alike_tells all x y (at_seen (IsFound all) equal_mapping mapping_decides all (self_found all) x first))
      ∙ (λ i. equal_mapping (alike_self all all_apart x first i) (alike_self all all_apart y second i)) ∙ apart

  finer : (xs : List MappingText) → AllByRecursion Among xs → IsDistinct equal_mapping xs → IsDistinct same_mapping xs
  finer [] among apart = distinct_apart same_mapping mapping_laws []
  finer (x ∷ xs) among apart =
      IsDistinct-cons same_mapping x xs
      (all_by (λ y. Among y × (equal_mapping x y ≡ false)) (λ y. same_mapping x y ≡ false) (λ y k. differ x y among.0 k.0 k.1) xs
      (all_both Among (λ y. equal_mapping x y ≡ false) xs among.1 (IsDistinct-head equal_mapping x xs apart)))
      (finer xs among.1 (IsDistinct-tail equal_mapping x xs apart))

  module _ (f : Finders) (filtering : Filtering) where
    abbrev c : Contents
    c = saved_contents p f filtering

    fine : AllByRecursion Fine (locations c)
    fine = locations_each p f filtering Fine cut_fine

    among : AllByRecursion Among (mappings c)
    among =
        all_distinct Among equal_mapping (mapping_walk c)
        (all_join Among (option_to_list (slice_get all 0)) (filter_map (λ (l : LocationText). l.mapping) (locations c)) (first_of Among all self)
        (all_some Among (λ (l : LocationText). l.mapping) (locations c) (all_by Fine _ (λ l k. k.0) (locations c) fine)))

    counted : AllByRecursion (λ s. counts s ≡ true) c.samples
    counted = recursion_from_All (λ s. counts s ≡ true) _ (filter_passes counts (summed same_sample (length p.sample_type) (cut_samples p f filtering)))

    keys_apart : IsDistinct same_sample (keys_of same_sample (summed same_sample (length p.sample_type) (cut_samples p f filtering)))
    keys_apart =
        let items : List (SampleText × List ℤ) = cut_samples p f filtering in
        let keys : List SampleText = distinct same_sample (keys_of same_sample items) in
        subst (IsDistinct same_sample)
        (sym (map_back (λ (item : SampleText × List ℤ). item.0) (λ key. (key, sum_of same_sample (length p.sample_type) items key)) keys (all_any _ (λ key. refl) keys)))
        (distinct_apart same_sample (deciding_laws same_sample sample_decides) (keys_of same_sample items))

    types_length : length c.header.types ≡ length p.sample_type
    types_length = length-map p.sample_type (type_text p)

    -- All together.
    pub settled_saved : IsSettled c
    settled_saved = record {
      fits = record {
        rows = all_by (λ s. length s.1 ≡ length p.sample_type) _ (λ s k. k ∙ sym types_length) c.samples (rows_long p f filtering);
        typed = λ none. no_column c.samples (all_by (λ s. length s.1 ≡ length p.sample_type) _ (λ s k. k ∙ sym types_length ∙ none) c.samples (rows_long p f filtering)) counted;
      };
      apart = IsDistinct-keys_filter same_sample counts (summed same_sample (length p.sample_type) (cut_samples p f filtering)) keys_apart;
      counted = counted;
      comments = own_settled.comments;
      duration = own_settled.duration;
      mapped = finer (mappings c) among (distinct_apart equal_mapping (deciding_laws equal_mapping mapping_decides) (mapping_walk c));
      starts = all_by Among _ (λ m seen. at_seen (λ (x : MappingText). x.start < 2 ^ 64) equal_mapping mapping_decides all starts m seen) (mappings c) among;
      distances = all_by Fine _ (λ l k. k.1) (locations c) fine;
      unmapped = λ none. none_among all (mappings c) none among;
    }
