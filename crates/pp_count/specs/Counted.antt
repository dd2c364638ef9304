-- What a report counts: the samples that put keys into it, and what `count` gives of them.
use Rattle.std.specs.Prelude.{◌≡◌, ℕ, ◌<◌, ◌^◌, nat_abs, Bool, false, List, length, map, Option, All}
use Rattle.std.specs.List.{list_any, sum_by}
use Rattle.std.specs.Option.{option_map_or}
use Rattle.pp_model.specs.declared.config.Config.{Config}
use Rattle.pp_model.specs.declared.loaded.Loaded.{Loaded}
use Rattle.pp_model.specs.declared.profile.Profile.{Profile}
use Rattle.pp_model.specs.declared.verdicts.Verdicts.{Verdicts}
use Rattle.pp_model.specs.declared.filtering.Filtering.{Filtering}
use Rattle.pp_model.specs.Conditions.{HasVerdicts, IsColumnOf}
use Rattle.pp_model.specs.Finders.{Finders}
use Rattle.pp_model.specs.FrameTexts.{Written}
use Rattle.pp_model.specs.Sizes.{IsCountable}
use Rattle.pp_grain.specs.Keys.{IsKeyOf}
use Rattle.pp_tags.specs.TagFilters.{HasItsTags, filter_in_force}
use Rattle.pp_count.specs.declared.counted.Counted.{Counted}
use Rattle.pp_count.specs.declared.scope.Scope.{Scope}
use Rattle.pp_count.specs.declared.sums.Sums.{Sums}
use Rattle.pp_count.specs.declared.sums.NumberedSums.{NumberedSums}
use Rattle.pp_count.specs.Sums.{Seen, weighed}
use Rattle.pp_count.specs.Seeing.{HoldsFilters, seen_samples, framed_samples, filtered_from}
use Rattle.pp_count.specs.Matches.{matches_of}
use Rattle.pp_count.specs.Counts.{AreSumsOf, total_of}
use Rattle.pp_count.specs.Filters.{AreFilters}
use Rattle.pp_count.specs.Rising.{AreRisingBetween}
use Rattle.pp_count.specs.Scope.{profile_in_scope, config_of}
use Rattle.pp_count.specs.Table.{key_numbered, IsKeyTable}

-- What a report counts of a profile can be counted: samples and columns are few, sums
-- fit, and verdicts, tags and column are those of the profile.
pub record CanCount (p : Profile) (v : Verdicts) (filtering : Filtering) (of_column : Option ℕ)
    : Type 0 where
  pub countable : IsCountable p
  pub column : IsColumnOf p of_column
  pub verdicts : HasVerdicts p v
  pub focus : HasItsTags p v.tag (filter_in_force filtering.tagfocus)
  pub ignore : HasItsTags p v.tag (filter_in_force filtering.tagignore)

-- The samples that put keys into a report: those that the filters leave and whose
-- selected value isn't 0, with the keys of their frames that count.
abbrev pub report_samples : Profile → Finders → Config → Option ℕ → List (Seen Written)
report_samples p f config column = weighed (seen_samples p f config column p.sample)

-- The samples that count, with the frames that count, written out, in the place of keys.
abbrev pub report_frames : Profile → Finders → Config → Option ℕ → List (Seen Written)
report_frames p f config column = weighed (framed_samples p f config column p.sample)

-- whether the own pattern of a peek or list report finds the frame's function
abbrev pub finds_own : Finders → Written → Bool
finds_own f w = option_map_or (λ find. find w.function) f.own false

-- Whether the own pattern of a report finds the function of a frame that counts.
abbrev pub has_own_match : Profile → Finders → Config → Option ℕ → Bool
has_own_match p f config column =
    list_any (λ s. list_any (finds_own f) s.keys) (report_frames p f config column)

-- There is a flat and a cum for each name, and the flats can be added up.
pub record FitSums (sums : Sums) : Type 0 where
  pub flats : length sums.flat ≡ length sums.names
  pub cums : length sums.cum ≡ length sums.names
  pub small : sum_by nat_abs sums.flat < 2 ^ 63

-- The sums of all samples of the scope are under the keys of these numbers. No public clause cites it.
pub record AreKeyed (scope : Scope) (keyed : NumberedSums) : Type 0 where
  pub sums : (f : Finders) → HoldsFilters scope.l.now scope.v.now scope.config.now.filtering f
      → AreSumsOf (profile_in_scope scope) (report_samples (profile_in_scope scope) f (config_of scope) scope.column) keyed.sums
  pub fits : FitSums keyed.sums
  pub of_profile : All (IsKeyOf (profile_in_scope scope)) keyed.sums.names
  pub names : keyed.sums.names ≡ map (key_numbered scope.table.now.names) keyed.numbers
  pub numbered : All (λ n. n < length scope.table.now.names) keyed.numbers

-- What is counted is what the report's samples come to, whatever its patterns find. What it was counted by is at hand.
pub record IsCountedOf (l : Loaded) (v : Verdicts) (config : Config) (column : Option ℕ) (c : Counted)
    : Type 0 where
  pub kept : (f : Finders) → HoldsFilters l v config.filtering f
      → c.kept ≡ filtered_from l.profile f config.filtering 0 l.profile.sample
  pub sums_are : (f : Finders) → HoldsFilters l v config.filtering f
      → AreSumsOf l.profile (report_samples l.profile f config column) c.sums
  pub matches : (f : Finders) → HoldsFilters l v config.filtering f
      → c.matched.slots ≡ matches_of l.profile f config.filtering
  pub total_is : (f : Finders) → HoldsFilters l v config.filtering f
      → c.total ≡ total_of l.profile f config column
  pub fits : FitSums c.sums
  pub of_profile : All (IsKeyOf l.profile) c.sums.names
  pub rising : AreRisingBetween 0 (length l.profile.sample) c.kept
  pub table : IsKeyTable l.profile config.grouping c.table
  pub filters : AreFilters l.profile v config.filtering c.filters
  pub names : c.sums.names ≡ map (key_numbered c.table.names) c.numbers
  pub numbered : All (λ n. n < length c.table.names) c.numbers
