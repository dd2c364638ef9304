-- No difference of two sums over the samples of a countable profile wraps.
use Rattle.std.proofs.Common.{◌≡◌, ℕ, ◌<◌, ◌≤◌, ◌^◌, Bool, ℤ, neg_ℤ, ◌-ℤ◌, ◌+ℤ◌, nat_abs, List, Option, ap, ◌∙◌, w64, arith}
use Rattle.std.specs.Int.{int_wrap}
use Rattle.std.proofs.lemmas.Int.{ints, int_wrap_fits, fits_signed_from_abs}
use Rattle.pp_model.specs.declared.config.Config.{Config}
use Rattle.pp_model.specs.declared.profile.Sample.{Sample}
use Rattle.pp_model.specs.declared.profile.Profile.{Profile}
use Rattle.pp_model.specs.Finders.{Finders}
use Rattle.pp_model.specs.FrameTexts.{Written}
use Rattle.pp_count.specs.Column.{selected}
use Rattle.pp_count.specs.Counts.{is_base}
use Rattle.pp_count.specs.Counted.{report_samples}
use Rattle.pp_count.specs.Seeing.{absolute_all}
use Rattle.pp_count.specs.Sums.{sum_where}
use Rattle.pp_count.specs.Base.{base_samples, base_report_samples}
use Rattle.pp_top.specs.Compare.{difference_of, filtered_whole}
use Rattle.pp_top.specs.ComparedRows.{wrapped}
use Rattle.pp_top.proofs.Parting.{sum_over, passing_bound, others_bound, seen_adds, seen_sum, seen_within, whole_adds, whole_sum, whole_within}

fits : (z : ℤ) → nat_abs z < 2 ^ 63 → int_wrap w64 z ≡ z
fits z small = int_wrap_fits w64 z (fits_signed_from_abs w64 z small)

-- what fits is as it should be
pub wrapped_is : (base change : ℤ) → nat_abs base < 2 ^ 63 → nat_abs (change -ℤ base) < 2 ^ 63 → wrapped base change ≡ difference_of base change
wrapped_is base change small apart = λ i. record {
  before = fits (neg_ℤ base) (omega (arith, ints, small)) i;
  after = (fits (change -ℤ base) apart ∙ swapped) i;
  change = change;
} where
  swapped : change -ℤ base ≡ neg_ℤ base +ℤ change
  swapped = omega (arith, ints)

module _ (p : Profile) (f : Finders) (config : Config) (column : Option ℕ) (small : absolute_all column config.presentation.divide_by p.sample < 2 ^ 63) where
  abbrev size : Sample → ℕ
  size s = nat_abs (selected column config.presentation.divide_by s)

  -- sums by what each sample adds, of the base's samples and of all
  differs : (g : Sample → ℤ) → ((s : Sample) → nat_abs (g s) ≤ size s) → (base change : ℤ)
      → base ≡ sum_over g (base_samples p) → change ≡ sum_over g p.sample → wrapped base change ≡ difference_of base change
  differs g within base change is_base_sum is_sum =
      let apart : nat_abs (change -ℤ base) ≡ nat_abs (sum_over g p.sample -ℤ sum_over g (base_samples p)) = λ i. nat_abs (is_sum i -ℤ is_base_sum i) in
      wrapped_is base change
      (omega (arith, small, ap nat_abs is_base_sum, passing_bound g size within (is_base p) p.sample))
      (omega (arith, small, apart, others_bound g size within (is_base p) p.sample))

  -- the figures of the samples whose keys pass a test
  pub figures_differ : (t : List Written → Bool)
      → wrapped (sum_where t (base_report_samples p f config column)) (sum_where t (report_samples p f config column))
      ≡ difference_of (sum_where t (base_report_samples p f config column)) (sum_where t (report_samples p f config column))
  figures_differ t =
      differs (seen_adds t p f config column) (seen_within t p f config column) (sum_where t (base_report_samples p f config column)) (sum_where t (report_samples p f config column))
      (seen_sum t p f config column (base_samples p)) (seen_sum t p f config column p.sample)

  -- those of all samples that the filters leave
  pub whole_differs : wrapped (filtered_whole p f config column (base_samples p)) (filtered_whole p f config column p.sample)
      ≡ difference_of (filtered_whole p f config column (base_samples p)) (filtered_whole p f config column p.sample)
  whole_differs =
      differs (whole_adds p f config column) (whole_within p f config column) (filtered_whole p f config column (base_samples p)) (filtered_whole p f config column p.sample)
      (whole_sum p f config column (base_samples p)) (whole_sum p f config column p.sample)
