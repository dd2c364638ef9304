-- What holds of each location that is cut holds of the locations of a saved profile.
use Rattle.std.proofs.Common.{◌≡◌, ℤ, List, length, subst}
use Rattle.std.specs.Prelude.{Option, Some, None, option_map}
use Rattle.std.specs.List.{AllByRecursion}
use Rattle.std.proofs.lemmas.Option.{none-some, same_Some}
use Rattle.pp_model.specs.declared.frame.Frame.{Frame}
use Rattle.pp_model.specs.declared.profile.Sample.{Sample}
use Rattle.pp_model.specs.declared.profile.Profile.{Profile}
use Rattle.pp_model.specs.declared.filtering.Filtering.{Filtering}
use Rattle.pp_model.specs.Finders.{Finders}
use Rattle.pp_count.specs.Seeing.{filtered_stack}
use Rattle.pp_share.specs.Alike.{same_sample, same_location}
use Rattle.pp_share.specs.Described.{LocationText, SampleText}
use Rattle.pp_model.specs.FirstSight.{distinct}
use Rattle.pp_share.specs.Sums.{counts, keys_of, rows_of, summed, sum_of}
use Rattle.pp_share.specs.Written.{Contents, locations}
use Rattle.pp_share.proofs.NumberedLemmas.{all_mapped}
use Rattle.pp_merge.proofs.SettledLemmas.{all_any, all_distinct, all_filtered, all_flat, all_some}
use Rattle.pp_share.proofs.SumLemmas.{length-total_of}
use Rattle.pp_restack.specs.Stacks.{by_place, cut_text}
use Rattle.pp_dump.specs.Saved.{cut_sample, cut_samples, saved_contents}

module _ (p : Profile) (f : Finders) (filtering : Filtering) where
  abbrev c : Contents
  c = saved_contents p f filtering

  abbrev items : List (SampleText × List ℤ)
  items = cut_samples p f filtering

  one_cut : (P : LocationText → Type 0) → ((group : List Frame) → P (cut_text p group)) → (s : Sample) (o : Option (List Frame)) (y : SampleText × List ℤ)
      → option_map (cut_sample p f s) o ≡ Some y → AllByRecursion P y.0.locations
  one_cut P each s None y found = absurd (none-some y found)
  one_cut P each s (Some stack) y found =
      subst (λ (x : SampleText × List ℤ). AllByRecursion P x.0.locations) (same_Some (cut_sample p f s stack) y found)
      (all_mapped P (cut_text p) (by_place stack) (all_any (λ group. P (cut_text p group)) each (by_place stack)))

  -- Of the samples' locations,
  pub samples_each : (P : LocationText → Type 0) → ((group : List Frame) → P (cut_text p group)) → AllByRecursion (λ s. AllByRecursion P s.0.locations) c.samples
  samples_each P each =
      all_filtered (λ (s : SampleText × List ℤ). AllByRecursion P s.0.locations) counts (summed same_sample (length p.sample_type) items)
      (all_mapped (λ (s : SampleText × List ℤ). AllByRecursion P s.0.locations) (λ key. (key, sum_of same_sample (length p.sample_type) items key)) (distinct same_sample (keys_of same_sample items))
      (all_distinct (λ (key : SampleText). AllByRecursion P key.locations) same_sample (keys_of same_sample items)
      (all_mapped (λ (key : SampleText). AllByRecursion P key.locations) (λ (item : SampleText × List ℤ). item.0) items
      (all_some (λ (item : SampleText × List ℤ). AllByRecursion P item.0.locations) (λ s. option_map (cut_sample p f s) (filtered_stack p f filtering s)) p.sample
      (all_any (λ (s : Sample). (y : SampleText × List ℤ) → option_map (cut_sample p f s) (filtered_stack p f filtering s) ≡ Some y → AllByRecursion P y.0.locations)
      (λ s y found. one_cut P each s (filtered_stack p f filtering s) y found) p.sample)))))

  -- and of each location.
  pub locations_each : (P : LocationText → Type 0) → ((group : List Frame) → P (cut_text p group)) → AllByRecursion P (locations c)
  locations_each P each = all_distinct P same_location _ (all_flat P (λ s. s.0.locations) c.samples (samples_each P each))

  -- Each sample has a value of each column.
  pub rows_long : AllByRecursion (λ s. length s.1 ≡ length p.sample_type) c.samples
  rows_long =
      all_filtered (λ (s : SampleText × List ℤ). length s.1 ≡ length p.sample_type) counts (summed same_sample (length p.sample_type) items)
      (all_mapped (λ (s : SampleText × List ℤ). length s.1 ≡ length p.sample_type) (λ key. (key, sum_of same_sample (length p.sample_type) items key)) (distinct same_sample (keys_of same_sample items))
      (all_any (λ (key : SampleText). length (sum_of same_sample (length p.sample_type) items key) ≡ length p.sample_type)
      (λ key. length-total_of (length p.sample_type) (rows_of same_sample items key)) (distinct same_sample (keys_of same_sample items))))
