-- The stacks of a saved profile, and those that the filters leave, as the texts of their locations.
use Rattle.std.proofs.Common.{◌≡◌, ℕ, zero, suc, ◌<◌, ◌^◌, ℤ, Bool, true, false, List, [], ◌∷◌, map, get_or, refl, sym, ap, ◌∙◌, arith}
use Rattle.std.specs.Prelude.{Option, Some, None, option_map, unwrap_or, IfSome, if◌then◌else◌}
use Rattle.std.specs.List.{AllByRecursion, filter_map, cons_option}
use Rattle.std.specs.Option.{option_map_or}
use Rattle.pp_base.proofs.Lists.{all_by}
use Rattle.pp_model.specs.declared.frame.Frame.{Frame}
use Rattle.pp_model.specs.declared.profile.Location.{Location}
use Rattle.pp_model.specs.declared.profile.Sample.{Sample}
use Rattle.pp_model.specs.declared.profile.Profile.{Profile}
use Rattle.pp_model.specs.declared.filtering.Filtering.{Filtering}
use Rattle.pp_model.specs.Conditions.{no_location, location_at, RefersTo}
use Rattle.pp_model.specs.Finders.{Finders}
use Rattle.pp_model.specs.Lookup.{text_at, text_of}
use Rattle.pp_model.specs.FrameTexts.{written_lines}
use Rattle.pp_model.specs.Rules.{AreNumbered, location_ids}
use Rattle.pp_stack.specs.Filters.{frames_of_sample}
use Rattle.pp_tags.specs.TagFilters.{shown_labels}
use Rattle.pp_count.specs.Seeing.{filtered_stack, passes_tags}
use Rattle.pp_share.specs.Alike.{same_location}
use Rattle.pp_share.specs.Described.{MappingText, LineText, LocationText, SampleText, mapping_found, function_found, line_text, label_text, less, plus, start_of}
use Rattle.pp_merge.specs.Merge.{all_mappings, merged}
use Rattle.pp_merge.specs.Settled.{IsSettled}
use Rattle.pp_share.specs.Written.{Contents, written as profile_of, locations, location_id, written_location, written_sample}
use Rattle.pp_model.proofs.FirstSightLemmas.{IsSeen}
use Rattle.pp_model.proofs.FirstText.{text_zero}
use Rattle.pp_share.proofs.NumberedLemmas.{all_both}
use Rattle.pp_merge.proofs.WrittenAgain.{labels_back}
use Rattle.pp_merge.proofs.WrittenPlaces.{location_there, mapping_there, lines_there, mappings_stay, addresses_small}
use Rattle.pp_merge.proofs.WrittenValid.{texts_of_samples, seen_locations, valid_written}
use Rattle.pp_restack.specs.Stacks.{by_place, cut_location, cut_text}
use Rattle.pp_dump.specs.Saved.{cut_sample}
use Rattle.pp_dump.specs.Stacks.{PlaceText, StackText, location_place, whole_place, left_place, whole_stack, left_stack, whole_stacks}
use Rattle.pp_dump.proofs.PlaceTexts.{place_of, place_with, written_lines_are, group_frames}
use Rattle.pp_dump.proofs.StackGroups.{IsGroup, Coheres, are_groups, left_coheres}

-- the stack of a sample that is written out
abbrev pub stack_text : SampleText → StackText
stack_text s = record { places = map place_of s.locations; labels = s.labels }

-- the stack of a sample beside its values
abbrev pub with_stack : SampleText × List ℤ → StackText × List ℤ
with_stack s = (stack_text s.0, s.1)

-- two ways of mapping that agree at each item
map_each : {A B C : Type 0} (f : B → C) (g : A → B) (h : A → C) (xs : List A) → AllByRecursion (λ x. f (g x) ≡ h x) xs → map f (map g xs) ≡ map h xs
map_each f g h [] all = refl
map_each f g h (x ∷ xs) all = (λ i. all.0 i ∷ map_each f g h xs all.1 i)

-- what was taken off an address is added again
plus_back : (a s : ℕ) → a < 2 ^ 64 → plus (less a s) s ≡ a
plus_back a s small = omega arith

module _ (c : Contents) (settled : IsSettled c) where
  first_empty : text_at (profile_of c) 0 ≡ []
  first_empty = text_zero (profile_of c) (valid_written c settled.fits)

  -- a place of a written profile
  place_back : (l : LocationText) → IsSeen same_location (locations c) l → whole_place (profile_of c) (location_id c l) ≡ place_of l
  place_back l there =
      let q : Profile = profile_of c in
      let w : Location = written_location c l in
      ap (λ (o : Option Location). location_place q (unwrap_or o no_location) (option_map_or (λ location. written_lines q location location.line) o [])) (location_there c settled l there)
      ∙ ap (location_place q w) (written_lines_are q first_empty w w.line)
      ∙ (λ i. place_with (mapping_there c settled l there i) w.address (lines_there c settled l there i) w.folded)

  -- The samples of a written profile.
  pub whole_back : whole_stacks (profile_of c) ≡ map with_stack c.samples
  whole_back =
      map_each (whole_stack (profile_of c)) (written_sample c) with_stack c.samples
      (all_by _ _ (λ s k i. (
        record {
          places = map_each (whole_place (profile_of c)) (location_id c) place_of s.0.locations (all_by _ _ place_back s.0.locations k.0) i;
          labels = labels_back c settled s.0.labels k.1 i;
        },
        s.1,
      )) c.samples (all_both _ _ c.samples (seen_locations c) (texts_of_samples c)))

module _ (p : Profile) (empty : text_at p 0 ≡ []) (starts : AllByRecursion (λ m. m.start < 2 ^ 64) (all_mappings (p ∷ []))) (again : merged p [] ≡ p) where
  small : (k : ℕ) → (location_at p k).address < 2 ^ 64
  small k = by p.location k (addresses_small p again)
    where
      by : (ls : List Location) (k : ℕ) → AllByRecursion (λ (l : Location). l.address < 2 ^ 64) ls → (get_or ls k no_location).address < 2 ^ 64
      by [] k all = omega arith
      by (l ∷ ls) zero all = all.0
      by (l ∷ ls) (suc k) all = by ls k all.1

  cut_small : (group : List Frame) → (cut_location p group).address < 2 ^ 64
  cut_small [] = omega arith
  cut_small (f ∷ group) = small f.location

  -- a place that is left of a profile
  place_left : (group : List Frame) → IsGroup p group → left_place p group ≡ place_of (cut_text p group)
  place_left group is =
      let l : Location = cut_location p group in
      let own : Option MappingText = mapping_found p l.mapping_id in
      let lines : List LineText = map (line_text (function_found p)) l.line in
      ap (location_place p l) (group_frames p empty group is)
      ∙ ap (λ (address : ℕ). place_with own address lines l.folded) (sym (plus_back l.address (start_of own) (cut_small group)))
      ∙ ap (λ (m : Option MappingText). place_with m (plus (less l.address (start_of own)) (start_of m)) lines l.folded) (sym (mappings_stay p starts again l.mapping_id))

  module _ (f : Finders) (filtering : Filtering) (numbered : AreNumbered (location_ids p)) where
    -- one sample, by what the filters leave of it
    one_left : (s : Sample) (o : Option (List Frame)) → IfSome o (Coheres p) → option_map (left_stack p f s) o ≡ option_map with_stack (option_map (cut_sample p f s) o)
    one_left s None is = refl
    one_left s (Some stack) is =
        ap (λ (places : List PlaceText). Some (record { places = places; labels = map (label_text (text_of p)) (shown_labels p f s.label) }, s.value))
        (sym (map_each place_of (cut_text p) (left_place p) (by_place stack) (all_by (IsGroup p) _ (λ group is. sym (place_left group is)) (by_place stack) (are_groups p stack is))))

    filtered_coheres : (s : Sample) → RefersTo p s → IfSome (filtered_stack p f filtering s) (Coheres p)
    filtered_coheres s refers = by (passes_tags p f filtering s)
      where
        by : (b : Bool) → IfSome (if b then frames_of_sample p f s else None) (Coheres p)
        by true = left_coheres p f s numbered refers
        by false = tt

    one_more : (o : Option (SampleText × List ℤ)) (rest : List (SampleText × List ℤ)) → cons_option (option_map with_stack o) (map with_stack rest) ≡ map with_stack (cons_option o rest)
    one_more None rest = refl
    one_more (Some x) rest = refl

    -- The samples that the filters leave of these.
    pub left_are : (xs : List Sample) → AllByRecursion (RefersTo p) xs
        → filter_map (λ s. option_map (left_stack p f s) (filtered_stack p f filtering s)) xs
        ≡ map with_stack (filter_map (λ s. option_map (cut_sample p f s) (filtered_stack p f filtering s)) xs)
    left_are [] all = refl
    left_are (s ∷ xs) all =
        (λ i. cons_option (one_left s (filtered_stack p f filtering s) (filtered_coheres s all.0) i) (left_are xs all.1 i))
        ∙ one_more (option_map (cut_sample p f s) (filtered_stack p f filtering s)) _
