-- A difference is a difference: a profile less a base, and less itself.
use Rattle.std.specs.Prelude.{◌≡◌, ℕ, ◌-ℤ◌, Bool, [], ◌∷◌, length, Option, Some}
use Rattle.pp_model.specs.declared.config.Config.{Config}
use Rattle.pp_model.specs.declared.profile.Profile.{Profile}
use Rattle.pp_model.specs.declared.report.BaseKind.{BaseKind}
use Rattle.pp_model.specs.declared.report.BaseKind.TheVariants.{Base, DiffBase}
use Rattle.pp_model.specs.Rules.{NoRuleFails}
use Rattle.pp_model.specs.Finders.{Finders}
use Rattle.pp_merge.specs.Merge.{merged}
use Rattle.pp_merge.specs.Scale.{negated}
use Rattle.pp_grain.specs.Keys.{key_cmp}
use Rattle.pp_model.specs.FrameTexts.{Written}
use Rattle.pp_count.specs.Sums.{flat, cum}
use Rattle.pp_count.specs.EdgeSums.{edge_sum}
use Rattle.pp_count.specs.Counted.{report_samples}
use Rattle.pp_laws.specs.Merged.{HasValues, AddUp}

-- the profile less its base, of either kind
abbrev pub less_base : BaseKind → Profile → Profile → Profile
less_base kind p base = merged p (negated kind base ∷ [])

-- Each figure of the profile less its base is the profile's less the base's, each reported alone.
pub record AreDifferences (kind : BaseKind) (p base : Profile) (f : Finders) (config : Config) (column : ℕ) : Type 0 where
  pub flat : (k : Written)
      → flat key_cmp (report_samples (less_base kind p base) f config (Some column)) k
      ≡ flat key_cmp (report_samples (merged p []) f config (Some column)) k
      -ℤ flat key_cmp (report_samples (merged base []) f config (Some column)) k
  pub cum : (k : Written)
      → cum key_cmp (report_samples (less_base kind p base) f config (Some column)) k
      ≡ cum key_cmp (report_samples (merged p []) f config (Some column)) k
      -ℤ cum key_cmp (report_samples (merged base []) f config (Some column)) k
  pub edge : (kept : Written → Bool) (a b : Written)
      → edge_sum key_cmp kept (report_samples (less_base kind p base) f config (Some column)) a b
      ≡ edge_sum key_cmp kept (report_samples (merged p []) f config (Some column)) a b
      -ℤ edge_sum key_cmp kept (report_samples (merged base []) f config (Some column)) a b

-- So it is of a profile and a base whose figures could be added up.
abbrev pub BasesSubtract : Type 0
BasesSubtract =
    (p base : Profile) (f : Finders) (config : Config) (column : ℕ)
    → AddUp p (base ∷ []) config column → AreDifferences Base p base f config column

-- A base with labelled samples subtracts so too, where no table rule fails of it. No tag filter is in force, which
-- would see the label.
abbrev pub LabelledBasesSubtract : Type 0
LabelledBasesSubtract =
    (p base : Profile) (f : Finders) (config : Config) (column : ℕ)
    → AddUp p (base ∷ []) config column → NoRuleFails base
    → config.filtering.tagfocus ≡ [] → config.filtering.tagignore ≡ []
    → AreDifferences DiffBase p base f config column

-- A profile less itself has no sample, so no report of it has a key or an edge.
pub record IsNothing (p : Profile) : Type 0 where
  pub samples : p.sample ≡ []
  pub reports : (f : Finders) (config : Config) (column : Option ℕ) → report_samples p f config column ≡ []

-- So it is for every profile whose samples have a value for each type.
abbrev pub NothingIsLeft : Type 0
NothingIsLeft = (p : Profile) → HasValues (length p.sample_type) p → IsNothing (less_base Base p p)
