-- What is known of a profile and of the configuration whose filters it is saved by, and both without filters.
use Rattle.std.specs.Prelude.{◌≡◌, ◌<◌, ◌^◌, pos, ◌≤ℤ◌, true, false, [], All}
use Rattle.std.specs.List.{AllByRecursion, list_any}
use Rattle.pp_model.specs.declared.config.Config.{Config}
use Rattle.pp_model.specs.declared.profile.Profile.{Profile}
use Rattle.pp_model.specs.declared.presentation.Presentation.{Presentation}
use Rattle.pp_model.specs.Defaults.{standard_filtering}
use Rattle.pp_model.specs.Finders.{Finders, no_finders}
use Rattle.pp_model.specs.Rules.{NoRuleFails}
use Rattle.pp_merge.specs.Merge.{merged}
use Rattle.pp_count.specs.Counts.{is_base}

-- the configuration without the ten variables that filter
abbrev pub unfiltered : Config → Config
unfiltered config = record config { filtering = standard_filtering }

-- The second configuration has the ten variables that filter of the first one.
abbrev pub HasFiltersOf : Config → Config → Type 0
HasFiltersOf config c = c.filtering ≡ config.filtering

-- the report's own pattern alone
abbrev pub own_alone : Finders → Finders
own_alone f = record no_finders { own = f.own }

-- The profile stays as it is when it is merged alone, as each loaded one does. No value is below 0, and no sample is of
-- a base.
pub record IsSource (p : Profile) : Type 0 where
  pub settled : merged p [] ≡ p
  pub least : All (λ s. All (λ v. pos 0 ≤ℤ v) s.value) p.sample
  pub plain : list_any (is_base p) p.sample ≡ false

-- Total is that of the filtered samples, and values are not divided.
pub record CountsFiltered (presentation : Presentation) : Type 0 where
  pub relative : presentation.relative_percentages ≡ true
  pub divide_by : presentation.divide_by ≡ 1

-- The profile keeps the table rules, its mappings start below 2^64, and it stays as it is when it is merged alone: so
-- it is with each that was loaded. No value is below 0, and no sample is one of a base. Total is that of the filtered
-- samples, and values are not divided.
pub record CanSave (p : Profile) (presentation : Presentation) : Type 0 where
  pub valid : NoRuleFails p
  pub starts : AllByRecursion (λ m. m.start < 2 ^ 64) p.mapping
  pub settled : merged p [] ≡ p
  pub least : All (λ s. All (λ v. pos 0 ≤ℤ v) s.value) p.sample
  pub plain : list_any (is_base p) p.sample ≡ false
  pub relative : presentation.relative_percentages ≡ true
  pub divide_by : presentation.divide_by ≡ 1
