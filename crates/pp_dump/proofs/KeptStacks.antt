-- A saved profile keeps the stacks that the filters leave.
use Rattle.std.proofs.Common.{◌≡◌, ◌≢◌, ℕ, ◌<◌, ◌^◌, ℤ, Bool, true, List, [], ◌∷◌, map, length, get_or, filter, Option, Some, None, Contains, All, AllPairs, refl, sym, ap, ◌∙◌, subst, arith}
use Rattle.std.specs.Prelude.{option_map, ◌+ℤ◌}
use Rattle.std.specs.List.{AllByRecursion}
use Rattle.std.proofs.lemmas.Bool.{eqb-true}
use Rattle.std.proofs.lemmas.List.{length-map, get_or-map}
use Rattle.std.proofs.lemmas.List.Elements.{All-from_recursion, recursion_from_All, All-contains_itself}
use Rattle.std.proofs.lemmas.Map.Made.{AllPairs-from_IsDistinct}
use Rattle.std.proofs.lemmas.Option.{none-some, same_Some}
use Rattle.pp_base.proofs.Lists.{all_by}
use Rattle.pp_model.specs.declared.frame.Frame.{Frame}
use Rattle.pp_model.specs.declared.profile.Sample.{Sample}
use Rattle.pp_model.specs.declared.profile.Profile.{Profile}
use Rattle.pp_model.specs.declared.filtering.Filtering.{Filtering}
use Rattle.pp_model.specs.Conditions.{RefersTo}
use Rattle.pp_model.specs.Finders.{Finders}
use Rattle.pp_model.specs.Rules.{NoRuleFails, IsCompact}
use Rattle.pp_model.proofs.RuleLemmas.{passes, refers_from_valid, sample_at}
use Rattle.pp_count.specs.Seeing.{filtered_stack}
use Rattle.pp_share.specs.Alike.{same_location, same_sample}
use Rattle.pp_share.specs.Described.{LocationText, SampleText, less, start_of}
use Rattle.pp_model.specs.FirstSight.{distinct}
use Rattle.pp_merge.specs.Merge.{all_mappings, contents, merged}
use Rattle.pp_merge.specs.Settled.{IsSettled}
use Rattle.pp_share.specs.Sums.{counts, keys_of, summed, sum_of}
use Rattle.pp_merge.specs.Totals.{value_passing, sum_passing}
use Rattle.pp_share.specs.Written.{Contents, locations}
use Rattle.pp_share.proofs.Deciding.{sample_decides}
use Rattle.pp_model.proofs.FirstSightLemmas.{IsSeen}
use Rattle.pp_model.proofs.FirstText.{text_zero}
use Rattle.pp_merge.proofs.KeptSums.{sum_stays}
use Rattle.pp_share.proofs.NumberedLemmas.{all_mapped}
use Rattle.pp_merge.proofs.SettledLemmas.{all_distinct, all_filtered, all_some, all_unmapped}
use Rattle.pp_merge.proofs.WrittenAgain.{map_back}
use Rattle.pp_merge.proofs.WrittenCompact.{compact_written}
use Rattle.pp_merge.proofs.WrittenPlaces.{distance_there}
use Rattle.pp_merge.proofs.WrittenValid.{seen_locations}
use Rattle.pp_dump.specs.Saved.{cut_sample, cut_samples, saved_contents, saved}
use Rattle.pp_dump.specs.Stacks.{PlaceText, StackText, whole_stacks, left_stacks, without_values, KeepsStacks}
use Rattle.pp_dump.proofs.PlaceTexts.{place_of}
use Rattle.pp_dump.proofs.StackTexts.{stack_text, with_stack, whole_back, left_are}

-- sums over samples whose stacks are written out
sum_stacks : (test : StackText → Bool) (column : ℕ) (xs : List (SampleText × List ℤ)) → sum_passing test column (map with_stack xs) ≡ sum_passing (λ s. test (stack_text s)) column xs
sum_stacks test column [] = refl
sum_stacks test column (x ∷ xs) = ap (λ sum. value_passing test column (with_stack x) +ℤ sum) (sum_stacks test column xs)

-- items that differ when they are described differ
apart_when : {A B : Type 0} (f : A → B) (xs : List A) → AllPairs (λ a b. a ≢ b) (map f xs) → AllPairs (λ a b. a ≢ b) xs
apart_when f xs apart = λ i j d below within same.
    apart i j (f d) below (omega (arith, within, length-map xs f))
    (get_or-map f xs i d (f d) (omega (arith, below, within)) ∙ ap f same ∙ sym (get_or-map f xs j d (f d) within))

-- the location of a place
abbrev location_of : PlaceText → LocationText
location_of place = record {
  mapping = place.mapping;
  distance = less place.address (start_of place.mapping);
  lines = place.lines;
  folded = place.folded;
}

-- the sample of a stack
abbrev sample_of : StackText → SampleText
sample_of s = record { locations = map location_of s.places; labels = s.labels }

module _ (c : Contents) (settled : IsSettled c) where
  location_again : (l : LocationText) → IsSeen same_location (locations c) l → location_of (place_of l) ≡ l
  location_again l there = (λ i. record { mapping = l.mapping; distance = distance_there c settled l there i; lines = l.lines; folded = l.folded })

  samples_again : map sample_of (without_values (map with_stack c.samples)) ≡ keys_of same_sample c.samples
  samples_again = by c.samples (seen_locations c)
    where
      by : (xs : List (SampleText × List ℤ)) → AllByRecursion (λ s. AllByRecursion (IsSeen same_location (locations c)) s.0.locations) xs
          → map sample_of (without_values (map with_stack xs)) ≡ keys_of same_sample xs
      by [] all = refl
      by (x ∷ xs) all =
          let own = map_back location_of place_of x.0.locations (all_by _ _ location_again x.0.locations all.0) in
          (λ i. record { locations = own i; labels = x.0.labels } ∷ by xs all.1 i)

  -- No two samples have the same stack and labels,
  pub stacks_apart : AllPairs (λ a b. a ≢ b) (without_values (map with_stack c.samples))
  stacks_apart =
      apart_when sample_of (without_values (map with_stack c.samples))
      (subst (AllPairs (λ a b. a ≢ b)) (sym samples_again) (AllPairs-from_IsDistinct sample_decides (keys_of same_sample c.samples) settled.apart))

  -- and each has a value that isn't 0.
  pub stacks_count : All (λ s. counts s ≡ true) (map with_stack c.samples)
  stacks_count = All-from_recursion (λ s. counts s ≡ true) (map with_stack c.samples) (all_mapped (λ s. counts s ≡ true) with_stack c.samples settled.counted)

-- What is left of items that are added up is among them.
module _ (n : ℕ) (items : List (SampleText × List ℤ)) where
  abbrev stacks : List StackText
  stacks = without_values (map with_stack items)

  abbrev Among : SampleText → Type 0
  Among key = Contains stacks (stack_text key)

  items_among : AllByRecursion (λ item. Among item.0) items
  items_among =
      all_unmapped (λ (s : StackText × List ℤ). Contains stacks s.0) with_stack items
      (all_unmapped (Contains stacks) (λ (s : StackText × List ℤ). s.0) (map with_stack items)
      (recursion_from_All (Contains stacks) stacks (All-contains_itself stacks)))

  pub left_among : All (Contains stacks) (without_values (map with_stack (filter counts (summed same_sample n items))))
  left_among =
      let left = filter counts (summed same_sample n items) in
      All-from_recursion (Contains stacks) (without_values (map with_stack left))
      (all_mapped (Contains stacks) (λ (s : StackText × List ℤ). s.0) (map with_stack left)
      (all_mapped (λ (s : StackText × List ℤ). Contains stacks s.0) with_stack left
      (all_filtered (λ item. Among item.0) counts (summed same_sample n items)
      (all_mapped (λ item. Among item.0) (λ key. (key, sum_of same_sample n items key)) (distinct same_sample (keys_of same_sample items))
      (all_distinct Among same_sample (keys_of same_sample items)
      (all_mapped Among (λ (item : SampleText × List ℤ). item.0) items items_among))))))

module _ (p : Profile) (f : Finders) (filtering : Filtering) (valid : NoRuleFails p) where
  refers : AllByRecursion (RefersTo p) p.sample
  refers = recursion_from_All (RefersTo p) p.sample (λ k d within. refers_from_valid p (get_or p.sample k d) valid (sample_at p k d within))

  -- each sample that is left has a value per column
  pub wide : AllByRecursion (λ item. length item.1 ≡ length p.sample_type) (cut_samples p f filtering)
  wide =
      all_some (λ item. length item.1 ≡ length p.sample_type) (λ s. option_map (cut_sample p f s) (filtered_stack p f filtering s)) p.sample
      (recursion_from_All _ p.sample (λ k d within item is. one (get_or p.sample k d) (filtered_stack p f filtering (get_or p.sample k d)) (eqb-true _ _ (passes _ p.sample valid.values k d within)) item is))
    where
      one : (s : Sample) (o : Option (List Frame)) → length s.value ≡ length p.sample_type → (item : SampleText × List ℤ) → option_map (cut_sample p f s) o ≡ Some item → length item.1 ≡ length p.sample_type
      one s None fits item is = absurd (none-some item is)
      one s (Some stack) fits item is = ap (λ (x : SampleText × List ℤ). length x.1) (sym (same_Some (cut_sample p f s stack) item is)) ∙ fits

  -- the samples that the filters leave, of a profile that stays as it is when it is merged alone
  pub left_is : AllByRecursion (λ m. m.start < 2 ^ 64) (all_mappings (p ∷ [])) → merged p [] ≡ p → left_stacks p f filtering ≡ map with_stack (cut_samples p f filtering)
  left_is starts again =
      let compact : IsCompact p = subst IsCompact again (compact_written (contents p [])) in
      left_are p (text_zero p valid) starts again f filtering compact.locations p.sample refers

  -- The saved profile of such a one.
  pub keeps_stacks : AllByRecursion (λ m. m.start < 2 ^ 64) (all_mappings (p ∷ [])) → merged p [] ≡ p → IsSettled (saved_contents p f filtering)
      → KeepsStacks p f filtering (saved p f filtering)
  keeps_stacks starts again settled =
      let c : Contents = saved_contents p f filtering in
      let n : ℕ = length p.sample_type in
      let items : List (SampleText × List ℤ) = cut_samples p f filtering in
      let whole : whole_stacks (saved p f filtering) ≡ map with_stack c.samples = whole_back c settled in
      let left : left_stacks p f filtering ≡ map with_stack items = left_is starts again in
      record {
        each =
            subst (λ (those : List (StackText × List ℤ)). All (Contains (without_values those)) (without_values (whole_stacks (saved p f filtering)))) (sym left)
            (subst (λ (these : List (StackText × List ℤ)). All (Contains (without_values (map with_stack items))) (without_values these)) (sym whole) (left_among n items));
        apart = subst (λ (these : List (StackText × List ℤ)). AllPairs (λ a b. a ≢ b) (without_values these)) (sym whole) (stacks_apart c settled);
        counted = subst (All (λ s. counts s ≡ true)) (sym whole) (stacks_count c settled);
        sums = λ test column within.
            ap (sum_passing test column) whole ∙ sum_stacks test column c.samples
            ∙ sum_stays same_sample sample_decides (λ s. test (stack_text s)) n column within items wide
            ∙ sym (sum_stacks test column items) ∙ ap (sum_passing test column) (sym left);
      }
