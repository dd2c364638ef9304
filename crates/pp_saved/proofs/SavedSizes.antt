-- The absolute values of a saved profile add up to no more than those of the profile.
use Rattle.std.proofs.Common.{◌≡◌, ℕ, ◌+◌, ◌<◌, ◌≤◌, ◌-◌, ℤ, pos, List, [], ◌∷◌, get_or, length, refl, ap, ◌∙◌, subst, arith}
use Rattle.std.specs.Prelude.{◌==◌, nat_abs, Option, Some, None, option_map}
use Rattle.std.specs.List.{AllByRecursion, cons_option, filter_map}
use Rattle.std.proofs.lemmas.Bool.{eqb-true, not-false}
use Rattle.std.proofs.lemmas.List.Elements.{recursion_from_All}
use Rattle.std.proofs.lemmas.Option.{none-some, same_Some}
use Rattle.pp_base.proofs.Lists.{all_by}
use Rattle.pp_model.specs.declared.frame.Frame.{Frame}
use Rattle.pp_model.specs.declared.profile.Sample.{Sample}
use Rattle.pp_model.specs.declared.profile.Profile.{Profile}
use Rattle.pp_model.specs.declared.filtering.Filtering.{Filtering}
use Rattle.pp_model.specs.Finders.{Finders}
use Rattle.pp_model.specs.FirstSight.{distinct}
use Rattle.pp_model.specs.Rules.{NoRuleFails}
use Rattle.pp_model.specs.Sizes.{absolute_sum, value_in}
use Rattle.pp_model.proofs.FirstSightLemmas.{IsSeen, all_seen, distinct_apart}
use Rattle.pp_model.proofs.RuleLemmas.{passes}
use Rattle.pp_count.specs.Seeing.{filtered_stack}
use Rattle.pp_share.specs.Alike.{same_sample}
use Rattle.pp_share.specs.Described.{SampleText}
use Rattle.pp_share.specs.Sums.{counts, keys_of, rows_of, summed, sum_of}
use Rattle.pp_share.specs.Written.{written_sample}
use Rattle.pp_share.proofs.Deciding.{sample_decides}
use Rattle.pp_share.proofs.DistinctLemmas.{deciding_laws}
use Rattle.pp_merge.proofs.MergedTotals.{sum_by_is, total_within, zero_at}
use Rattle.pp_share.proofs.NumberedLemmas.{all_mapped}
use Rattle.pp_merge.proofs.SettledLemmas.{all_any, all_filtered, all_some, all_unmapped}
use Rattle.pp_share.proofs.SumLemmas.{abs-total_of}
use Rattle.pp_merge.proofs.TotalLemmas.{total, total-map, total-filter, parted, adding_ℕ}
use Rattle.pp_dump.specs.Saved.{cut_sample, cut_samples, saved, saved_contents}
use Rattle.pp_saved.specs.Kept.{SavedSizes}

module _ (p : Profile) (f : Finders) (filtering : Filtering) (column : ℕ) (within : column < length p.sample_type) (valid : NoRuleFails p) where
  abbrev items : List (SampleText × List ℤ)
  items = cut_samples p f filtering

  abbrev keys : List SampleText
  keys = distinct same_sample (keys_of same_sample items)

  abbrev size : List ℤ → ℕ
  size row = nat_abs (get_or row column (pos 0))

  wide : AllByRecursion (λ (s : Sample). length s.value ≡ length p.sample_type) p.sample
  wide =
      recursion_from_All (λ (s : Sample). length s.value ≡ length p.sample_type) p.sample
      (λ k d below. eqb-true _ _ (passes (λ (s : Sample). length s.value == length p.sample_type) p.sample valid.values k d below))

  one_wide : (s : Sample) → length s.value ≡ length p.sample_type → (o : Option (List Frame)) (y : SampleText × List ℤ) → option_map (cut_sample p f s) o ≡ Some y
      → length y.1 ≡ length p.sample_type
  one_wide s long None y found = absurd (none-some y found)
  one_wide s long (Some stack) y found =
      subst (λ (x : SampleText × List ℤ). length x.1 ≡ length p.sample_type) (same_Some (cut_sample p f s stack) y found) long

  items_wide : AllByRecursion (λ (item : SampleText × List ℤ). length item.1 ≡ length p.sample_type) items
  items_wide =
      all_some (λ (item : SampleText × List ℤ). length item.1 ≡ length p.sample_type) (λ s. option_map (cut_sample p f s) (filtered_stack p f filtering s)) p.sample
      (all_by (λ (s : Sample). length s.value ≡ length p.sample_type)
      (λ (s : Sample). (y : SampleText × List ℤ) → option_map (cut_sample p f s) (filtered_stack p f filtering s) ≡ Some y → length y.1 ≡ length p.sample_type)
      (λ s long y found. one_wide s long (filtered_stack p f filtering s) y found) p.sample wide)

  rows_wide : (key : SampleText) → AllByRecursion (λ row. length row ≡ length p.sample_type) (rows_of same_sample items key)
  rows_wide key = all_mapped (λ row. length row ≡ length p.sample_type) (λ (item : SampleText × List ℤ). item.1) _ (all_filtered _ (λ item. same_sample key item.0) items items_wide)

  -- the absolute value of a sum of rows is no more than the sum of theirs
  key_within : (key : SampleText) → size (sum_of same_sample (length p.sample_type) items key) ≤ total adding_ℕ size (rows_of same_sample items key)
  key_within key =
      subst (λ n. size (sum_of same_sample (length p.sample_type) items key) ≤ n) (sum_by_is size (rows_of same_sample items key))
      (abs-total_of (length p.sample_type) (rows_of same_sample items key) column within (rows_wide key))

  all_keyed : AllByRecursion (λ (item : SampleText × List ℤ). IsSeen same_sample keys item.0) items
  all_keyed =
      all_unmapped (IsSeen same_sample keys) (λ (item : SampleText × List ℤ). item.0) items
      (all_seen same_sample (deciding_laws same_sample sample_decides).refl [] (keys_of same_sample items))

  -- what the filters leave adds up to no more than all
  left_within : (xs : List Sample) → total adding_ℕ (λ (item : SampleText × List ℤ). size item.1) (filter_map (λ s. option_map (cut_sample p f s) (filtered_stack p f filtering s)) xs)
      ≤ total adding_ℕ (λ s. nat_abs (value_in s column)) xs
  left_within [] = omega arith
  left_within (s ∷ xs) = by (filtered_stack p f filtering s) (filter_map (λ t. option_map (cut_sample p f t) (filtered_stack p f filtering t)) xs) (left_within xs)
    where
      by : (o : Option (List Frame)) (rest : List (SampleText × List ℤ))
          → total adding_ℕ (λ (item : SampleText × List ℤ). size item.1) rest ≤ total adding_ℕ (λ t. nat_abs (value_in t column)) xs
          → total adding_ℕ (λ (item : SampleText × List ℤ). size item.1) (cons_option (option_map (cut_sample p f s) o) rest)
          ≤ nat_abs (value_in s column) + total adding_ℕ (λ t. nat_abs (value_in t column)) xs
      by None rest less = omega (arith, less)
      by (Some stack) rest less = omega (arith, less)

  -- so does what is saved
  pub sizes_within : absolute_sum (saved p f filtering) column ≤ absolute_sum p column
  sizes_within =
      let ours : absolute_sum (saved p f filtering) column ≡ total adding_ℕ (λ key. size (sum_of same_sample (length p.sample_type) items key)) keys =
      sum_by_is (λ s. nat_abs (value_in s column)) (saved p f filtering).sample
      ∙ total-map adding_ℕ (λ s. nat_abs (value_in s column)) (written_sample (saved_contents p f filtering)) (saved_contents p f filtering).samples
      ∙ total-filter adding_ℕ (λ (item : SampleText × List ℤ). size item.1) counts (summed same_sample (length p.sample_type) items)
      (all_any _ (λ item no_value. ap nat_abs (zero_at item.1 column (not-false _ no_value))) (summed same_sample (length p.sample_type) items))
      ∙ total-map adding_ℕ (λ (item : SampleText × List ℤ). size item.1) (λ key. (key, sum_of same_sample (length p.sample_type) items key)) keys in
      let left : total adding_ℕ (λ key. total adding_ℕ size (rows_of same_sample items key)) keys ≡ total adding_ℕ (λ (item : SampleText × List ℤ). size item.1) items =
      parted adding_ℕ same_sample sample_decides size keys (distinct_apart same_sample (deciding_laws same_sample sample_decides) (keys_of same_sample items)) items all_keyed in
      let theirs : absolute_sum p column ≡ total adding_ℕ (λ s. nat_abs (value_in s column)) p.sample = sum_by_is (λ s. nat_abs (value_in s column)) p.sample in
      omega (
        arith,
        ours,
        left,
        theirs,
        left_within p.sample,
        total_within (λ key. size (sum_of same_sample (length p.sample_type) items key)) (λ key. total adding_ℕ size (rows_of same_sample items key)) key_within keys,
      )

-- All columns.
pub saved_sizes : SavedSizes
saved_sizes p f filtering column valid within = sizes_within p f filtering column within valid
