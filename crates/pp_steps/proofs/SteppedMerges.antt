-- Merges that are merged again are what merging all at once gives.
use Rattle.std.proofs.Common.{◌≡◌, ◌<◌, ◌^◌, ℕ, List, [], ◌∷◌, ◌++◌, map, refl, sym, ap, ◌∙◌, subst}
use Rattle.std.specs.Prelude.{ℤ, Option, None, Some, filter, slice_get}
use Rattle.std.specs.List.{AllByRecursion, flat_map}
use Rattle.std.specs.Option.{option_map}
use Rattle.std.proofs.lemmas.List.Folds.{flat_map-map}
use Rattle.std.proofs.lemmas.Option.{none-some}
use Rattle.pp_base.proofs.Lists.{all_by}
use Rattle.pp_share.specs.Described.{MappingText, LocationText, SampleText, mapping_text}
use Rattle.pp_share.specs.Alike.{equal_mapping, same_location, same_sample, first_alike}
use Rattle.pp_share.specs.Sums.{counts, summed}
use Rattle.pp_share.specs.Written.{Contents, locations, mappings, written}
use Rattle.pp_share.proofs.Deciding.{mapping_decides, location_decides}
use Rattle.pp_model.proofs.FirstSightLemmas.{IsSeen}
use Rattle.pp_merge.specs.Merge.{all_mappings, all_samples, contents}
use Rattle.pp_merge.specs.Settled.{IsSettled}
use Rattle.pp_merge.proofs.SettledLemmas.{all_flat, settled_contents}
use Rattle.pp_merge.proofs.WrittenAgain.{at_seen, contents_again, mappings_back}
use Rattle.pp_merge.proofs.WrittenValid.{seen_locations, seen_mappings}
use Rattle.pp_steps.specs.Premises.{GroupsAddUp, LosesNoSample, MergeInSteps}
use Rattle.pp_steps.specs.Steps.{Group, sources_of, all_sources, merged_group, in_steps, at_once, remapped, remapped_location}
use Rattle.pp_steps.proofs.SteppedHeader.{header_in_steps}
use Rattle.pp_steps.proofs.SteppedSamples.{all_settled, contents_of, flat_map-flat_map, merge_mappings, samples_in_steps, types_kept}

-- the first item of lists that begin with the same ones
first_of : {A : Type 0} (xs ys more others : List A) → slice_get xs 0 ≡ slice_get ys 0 → slice_get more 0 ≡ slice_get others 0 → slice_get (xs ++ more) 0 ≡ slice_get (ys ++ others) 0
first_of [] [] more others same rest = rest
first_of [] (y ∷ ys) more others same rest = absurd (none-some y same)
first_of (x ∷ xs) [] more others same rest = absurd (none-some x (sym same))
first_of (x ∷ xs) (y ∷ ys) more others same rest = same

first_by_groups : {X A : Type 0} (f h : X → List A) (xs : List X) → AllByRecursion (λ x. slice_get (f x) 0 ≡ slice_get (h x) 0) xs → slice_get (flat_map f xs) 0 ≡ slice_get (flat_map h xs) 0
first_by_groups f h [] same = refl
first_by_groups f h (x ∷ xs) same = first_of (f x) (h x) (flat_map f xs) (flat_map h xs) same.0 (first_by_groups f h xs same.1)

-- what holds of each mapping of what is written holds of those of its samples
pub sample_mappings : (c : Contents) (P : MappingText → Type 0) → AllByRecursion P (mappings c)
    → AllByRecursion (λ s. AllByRecursion (λ l. (m : MappingText) → l.mapping ≡ Some m → P m) s.0.locations) c.samples
sample_mappings c P all =
    all_by _ _ (λ s seen. all_by (IsSeen same_location (locations c)) _ (λ l there m is.
    at_seen P equal_mapping mapping_decides (mappings c) all m
    (at_seen (λ x. (y : MappingText) → x.mapping ≡ Some y → IsSeen equal_mapping (mappings c) y) same_location location_decides (locations c) (seen_mappings c) l there m is))
    s.0.locations seen) c.samples (seen_locations c)

-- samples in whose mappings nothing changes
remapped_same : (f : MappingText → MappingText) (samples : List (SampleText × List ℤ))
    → AllByRecursion (λ s. AllByRecursion (λ l. (m : MappingText) → l.mapping ≡ Some m → f m ≡ m) s.0.locations) samples → map (remapped f) samples ≡ samples
remapped_same f [] all = refl
remapped_same f (s ∷ samples) all = (λ j. (record { locations = each s.0.locations all.0 j; labels = s.0.labels }, s.1) ∷ remapped_same f samples all.1 j)
  where
    stays : (o : Option MappingText) → ((m : MappingText) → o ≡ Some m → f m ≡ m) → option_map f o ≡ o
    stays None is = refl
    stays (Some m) is = ap Some (is m refl)

    each : (ls : List LocationText) → AllByRecursion (λ l. (m : MappingText) → l.mapping ≡ Some m → f m ≡ m) ls → map (remapped_location f) ls ≡ ls
    each [] ok = refl
    each (l ∷ ls) ok = (λ j. record { mapping = stays l.mapping ok.0 j; distance = l.distance; lines = l.lines; folded = l.folded } ∷ each ls ok.1 j)

module _ (columns : ℕ) (g : Group) (groups : List Group) (up : GroupsAddUp columns (g ∷ groups)) where
  abbrev steps : Contents
  steps = contents (merged_group g) (map merged_group groups)

  abbrev once : Contents
  once = contents g.first (g.others ++ all_sources groups)

  settled : AllByRecursion (λ x. IsSettled (contents_of x)) (g ∷ groups)
  settled = all_settled columns (g ∷ groups) up

  -- no mapping of the merges starts past 64 bits
  pub merge_starts : AllByRecursion (λ m. m.start < 2 ^ 64) (all_mappings (map merged_group (g ∷ groups)))
  merge_starts =
      subst (AllByRecursion (λ m. m.start < 2 ^ 64)) (sym (flat_map-map (λ q. map (mapping_text q) q.mapping) merged_group (g ∷ groups)))
      (all_flat _ (λ x. map (mapping_text (merged_group x)) (merged_group x).mapping) (g ∷ groups)
      (all_by _ _ (λ x is. subst (AllByRecursion (λ m. m.start < 2 ^ 64)) (sym (merge_mappings columns (g ∷ groups) up x is)) is.starts) (g ∷ groups) settled))

  -- the merge of merges is settled
  pub steps_settled : IsSettled steps
  steps_settled = settled_contents (merged_group g) (map merged_group groups) merge_starts

  pub samples_alike : AllByRecursion (LosesNoSample columns) (g ∷ groups) → map (remapped (first_alike (all_mappings (all_sources (g ∷ groups))))) steps.samples ≡ once.samples
  samples_alike kept =
      ap (λ n. map (remapped (first_alike (all_mappings (all_sources (g ∷ groups))))) (filter counts (summed same_sample n (all_samples (map merged_group (g ∷ groups))))))
      (types_kept g.first g.others ∙ up.values.0.types)
      ∙ samples_in_steps columns (g ∷ groups) up kept
      ∙ ap (λ n. filter counts (summed same_sample n (all_samples (all_sources (g ∷ groups))))) (sym up.values.0.types)

  first_alike_in_steps : steps.first_mapping ≡ once.first_mapping
  first_alike_in_steps =
      ap (λ l. slice_get l 0) (flat_map-map (λ q. map (mapping_text q) q.mapping) merged_group (g ∷ groups))
      ∙ first_by_groups (λ x. map (mapping_text (merged_group x)) (merged_group x).mapping) (λ x. all_mappings (sources_of x)) (g ∷ groups)
      (all_by _ _ (λ x is. first_own (map (mapping_text (merged_group x)) (merged_group x).mapping) ∙ ap (λ c. c.first_mapping) (contents_again (contents_of x) is)) (g ∷ groups) settled)
      ∙ ap (λ l. slice_get l 0) (sym (flat_map-flat_map (λ q. map (mapping_text q) q.mapping) sources_of (g ∷ groups)))
    where
      first_own : (ms : List MappingText) → slice_get ms 0 ≡ slice_get (ms ++ []) 0
      first_own [] = refl
      first_own (m ∷ ms) = refl

  module _ (mine : MergeInSteps columns g groups) where
    steps_first : AllByRecursion (λ m. first_alike (all_mappings (all_sources (g ∷ groups))) m ≡ m) (mappings steps)
    steps_first = subst (AllByRecursion (λ m. first_alike (all_mappings (all_sources (g ∷ groups))) m ≡ m)) (mappings_back steps steps_settled) mine.mappings

    same_samples : steps.samples ≡ once.samples
    same_samples =
        sym (remapped_same (first_alike (all_mappings (all_sources (g ∷ groups)))) steps.samples
        (sample_mappings steps (λ m. first_alike (all_mappings (all_sources (g ∷ groups))) m ≡ m) steps_first))
        ∙ samples_alike mine.samples

    contents_in_steps : steps ≡ once
    contents_in_steps = (λ i. record {
      header = header_in_steps g groups settled mine.durations i;
      samples = same_samples i;
      first_mapping = first_alike_in_steps i;
    })

    -- All together.
    pub steps_are_one : in_steps g groups ≡ at_once g groups
    steps_are_one = ap written contents_in_steps
