-- Scaling scales, and a base counts against its source.
use Rattle.std.specs.Prelude.{◌≡◌, ℕ, ◌<◌, pos, neg_ℤ, ◌*ℤ◌, int_rem, Bool, List, length, Option, Some}
use Rattle.std.specs.List.{AllByRecursion}
use Rattle.pp_model.specs.declared.config.Config.{Config}
use Rattle.pp_model.specs.declared.profile.Profile.{Profile}
use Rattle.pp_model.specs.declared.profile.Sample.{Sample}
use Rattle.pp_model.specs.declared.report.BaseKind.TheVariants.{Base}
use Rattle.pp_model.specs.Finders.{Finders}
use Rattle.pp_model.specs.FrameTexts.{Written}
use Rattle.pp_model.specs.Sizes.{value_in}
use Rattle.pp_grain.specs.Keys.{key_cmp}
use Rattle.pp_merge.specs.Scale.{scaled, scaled_sample, negated}
use Rattle.pp_count.specs.Column.{selected}
use Rattle.pp_count.specs.Sums.{Seen, flat, cum}
use Rattle.pp_count.specs.EdgeSums.{edge_sum}
use Rattle.pp_count.specs.Counted.{report_samples}

-- The sample's selected value scales without a remainder: scaled and times den it is what it was, times num.
abbrev pub ScalesEvenly : ℕ → ℕ → ℕ → ℕ → Sample → Type 0
ScalesEvenly column num den divide_by s =
    selected (Some column) divide_by (scaled_sample column num den s) *ℤ pos den
    ≡ selected (Some column) divide_by s *ℤ pos num

-- Each figure over the second samples, times den, is that over the first, times num.
pub record AreScaled (num den : ℕ) (first second : List (Seen Written)) : Type 0 where
  pub flat : (k : Written) → flat key_cmp second k *ℤ pos den ≡ flat key_cmp first k *ℤ pos num
  pub cum : (k : Written) → cum key_cmp second k *ℤ pos den ≡ cum key_cmp first k *ℤ pos num
  pub edge : (kept : Written → Bool) (a b : Written)
      → edge_sum key_cmp kept second a b *ℤ pos den ≡ edge_sum key_cmp kept first a b *ℤ pos num

-- Where all values scale evenly, so do all figures.
abbrev pub FiguresScale : Type 0
FiguresScale =
    (p : Profile) (f : Finders) (config : Config) (column num den : ℕ)
    → AllByRecursion (ScalesEvenly column num den config.presentation.divide_by) p.sample
    → AreScaled num den (report_samples p f config (Some column))
    (report_samples (scaled p column num den) f config (Some column))

-- Values of which den divides the value times num scale evenly, where reports divide by 1 and the sample has the
-- column.
abbrev pub WholeValuesScale : Type 0
WholeValuesScale =
    (column num den : ℕ) (s : Sample)
    → column < length s.value → int_rem (value_in s column *ℤ pos num) (pos den) ≡ pos 0
    → ScalesEvenly column num den 1 s

-- Each figure over the second samples is the negative of that over the first.
pub record AreNegated (first second : List (Seen Written)) : Type 0 where
  pub flat : (k : Written) → flat key_cmp second k ≡ neg_ℤ (flat key_cmp first k)
  pub cum : (k : Written) → cum key_cmp second k ≡ neg_ℤ (cum key_cmp first k)
  pub edge : (kept : Written → Bool) (a b : Written)
      → edge_sum key_cmp kept second a b ≡ neg_ℤ (edge_sum key_cmp kept first a b)

-- A base counts against its source: each of its figures is negated.
abbrev pub BasesNegate : Type 0
BasesNegate =
    (p : Profile) (f : Finders) (config : Config) (column : Option ℕ)
    → AreNegated (report_samples p f config column) (report_samples (negated Base p) f config column)
