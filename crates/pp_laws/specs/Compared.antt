-- A comparison shows both sides: what a profile that has a base says of the base, and of the source.
use Rattle.std.specs.Prelude.{◌≡◌, ℕ, ℤ, neg_ℤ, ◌+ℤ◌, false, not, List, [], ◌∷◌, Option, Some}
use Rattle.std.specs.List.{filter}
use Rattle.pp_model.specs.declared.config.Config.{Config}
use Rattle.pp_model.specs.declared.profile.Profile.{Profile}
use Rattle.pp_model.specs.declared.profile.Sample.{Sample}
use Rattle.pp_model.specs.declared.report.BaseKind.TheVariants.{DiffBase}
use Rattle.pp_model.specs.Rules.{NoRuleFails}
use Rattle.pp_model.specs.Finders.{Finders}
use Rattle.pp_model.specs.FrameTexts.{Written}
use Rattle.pp_grain.specs.Keys.{key_cmp}
use Rattle.pp_merge.specs.Merge.{merged}
use Rattle.pp_count.specs.Base.{has_base, base_report_samples}
use Rattle.pp_count.specs.Sums.{Seen, flat, cum, weighed}
use Rattle.pp_count.specs.Seeing.{seen_samples}
use Rattle.pp_count.specs.Counts.{is_base}
use Rattle.pp_count.specs.Counted.{report_samples}
use Rattle.pp_laws.specs.Merged.{AddUp}
use Rattle.pp_laws.specs.Bases.{less_base}

-- what is asked of samples: the flat or the cum of a key
abbrev pub Figure : Type 0
Figure = List (Seen Written) → ℤ

-- the flat of a key
abbrev pub flat_of : Written → Figure
flat_of k samples = flat key_cmp samples k

-- the cum of a key
abbrev pub cum_of : Written → Figure
cum_of k samples = cum key_cmp samples k

-- What a comparison has for the base: the negative of the figure over the samples that carry the base's label.
abbrev pub before_change : Figure → Profile → Finders → Config → Option ℕ → ℤ
before_change figure p f config column = neg_ℤ (figure (base_report_samples p f config column))

-- What it has for the source: that, and the figure over all samples, which is the change.
abbrev pub after_change : Figure → Profile → Finders → Config → Option ℕ → ℤ
after_change figure p f config column =
    before_change figure p f config column +ℤ figure (report_samples p f config column)

-- the samples that do not carry the base's label
abbrev pub source_samples : Profile → List Sample
source_samples p = filter (λ s. not (is_base p s)) p.sample

-- the source's samples among those that put keys into a report
abbrev pub source_report_samples : Profile → Finders → Config → Option ℕ → List (Seen Written)
source_report_samples p f config column = weighed (seen_samples p f config column (source_samples p))

-- What a comparison has for the source is the figure over the samples that do not carry the base's label.
pub record AreApart (p : Profile) (f : Finders) (config : Config) (column : Option ℕ) : Type 0 where
  pub flat : (k : Written)
      → after_change (flat_of k) p f config column ≡ flat key_cmp (source_report_samples p f config column) k
  pub cum : (k : Written)
      → after_change (cum_of k) p f config column ≡ cum key_cmp (source_report_samples p f config column) k

-- So it is of every profile.
abbrev pub SidesAreApart : Type 0
SidesAreApart = (p : Profile) (f : Finders) (config : Config) (column : Option ℕ) → AreApart p f config column

-- Of a profile less a base, a comparison has the figures of the base and of the profile, each reported alone.
pub record AreBothShown (p base : Profile) (f : Finders) (config : Config) (column : ℕ) : Type 0 where
  pub flat_before : (k : Written)
      → before_change (flat_of k) (less_base DiffBase p base) f config (Some column)
      ≡ flat key_cmp (report_samples (merged base []) f config (Some column)) k
  pub flat_after : (k : Written)
      → after_change (flat_of k) (less_base DiffBase p base) f config (Some column)
      ≡ flat key_cmp (report_samples (merged p []) f config (Some column)) k
  pub cum_before : (k : Written)
      → before_change (cum_of k) (less_base DiffBase p base) f config (Some column)
      ≡ cum key_cmp (report_samples (merged base []) f config (Some column)) k
  pub cum_after : (k : Written)
      → after_change (cum_of k) (less_base DiffBase p base) f config (Some column)
      ≡ cum key_cmp (report_samples (merged p []) f config (Some column)) k

-- So it is where their figures could be added up and no table rule fails of the base. No sample of the profile carries
-- the base's label, and no tag filter is in force, which would see it.
abbrev pub BothAreShown : Type 0
BothAreShown =
    (p base : Profile) (f : Finders) (config : Config) (column : ℕ)
    → AddUp p (base ∷ []) config column → NoRuleFails base → has_base p ≡ false
    → config.filtering.tagfocus ≡ [] → config.filtering.tagignore ≡ []
    → AreBothShown p base f config column
