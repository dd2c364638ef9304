-- What the base's samples of a compared profile come to.
use Rattle.std.specs.Prelude.{◌≡◌, ℕ, ◌<◌, ◌≤◌, ◌^◌, nat_abs, ℤ, pos, ◌+ℤ◌, Bool, false, List, [], ◌∷◌, length, map, All, Option}
use Rattle.std.specs.List.{filter, list_any, slice_get}
use Rattle.std.specs.Option.{option_map_or}
use Rattle.pp_model.specs.declared.config.Config.{Config}
use Rattle.pp_model.specs.declared.loaded.Loaded.{Loaded}
use Rattle.pp_model.specs.declared.profile.Profile.{Profile}
use Rattle.pp_model.specs.declared.profile.Sample.{Sample}
use Rattle.pp_model.specs.declared.verdicts.Verdicts.{Verdicts}
use Rattle.pp_model.specs.FrameTexts.{Written}
use Rattle.pp_model.specs.Finders.{Finders}
use Rattle.pp_grain.specs.declared.key.Key.{Key}
use Rattle.pp_grain.specs.Keys.{key_cmp}
use Rattle.pp_count.specs.declared.base.BaseSums.{BaseSums}
use Rattle.pp_count.specs.declared.sums.Sums.{Sums}
use Rattle.pp_count.specs.declared.tally.Tally.{Tally}
use Rattle.pp_count.specs.Column.{selected}
use Rattle.pp_count.specs.Sums.{Seen, flat, cum, weighed, absolute, renamed}
use Rattle.pp_count.specs.Seeing.{HoldsFilters, seen_samples, absolute_all}
use Rattle.pp_count.specs.Counts.{is_base, filtered_samples, samples_at, written_names}
use Rattle.pp_count.specs.Parts.{HasBelow}
use Rattle.pp_count.specs.Table.{written_key}
use Rattle.pp_count.specs.Tally.{IsTallyOf}

-- a sample of the profile carries the base's label
abbrev pub has_base : Profile → Bool
has_base p = list_any (is_base p) p.sample

-- the profile's samples that carry the base's label
abbrev pub base_samples : Profile → List Sample
base_samples p = filter (is_base p) p.sample

-- The base's samples among those that put keys into a report, with the keys of their frames that count.
abbrev pub base_report_samples : Profile → Finders → Config → Option ℕ → List (Seen Written)
base_report_samples p f config column = weighed (seen_samples p f config column (base_samples p))

-- the sum of the selected values of the samples
abbrev pub selected_all : Option ℕ → ℕ → List Sample → ℤ
selected_all column divide_by [] = pos 0
selected_all column divide_by (s ∷ samples) =
    selected column divide_by s +ℤ selected_all column divide_by samples

-- For each name of the report's sums, the base's sum is that of the base's samples, 0 where none of them has the key.
-- The other sum is that of the selected values of the base's samples that the filters leave.
pub record AreBaseSums (p : Profile) (f : Finders) (config : Config) (column : Option ℕ) (sums : Sums)
    (base : BaseSums) : Type 0 where
  pub flat
      : base.flat ≡ map (flat key_cmp (base_report_samples p f config column)) (written_names p sums)
  pub cum
      : base.cum ≡ map (cum key_cmp (base_report_samples p f config column)) (written_names p sums)
  pub whole
      : base.whole
      ≡ selected_all column config.presentation.divide_by
      (filtered_samples p f config.filtering (base_samples p))

-- There is a flat and a cum for each name, and each figure has a negative.
pub record FitBase (names : List Key) (base : BaseSums) : Type 0 where
  pub flats : length base.flat ≡ length names
  pub cums : length base.cum ≡ length names
  pub small_flats : All (λ figure. nat_abs figure < 2 ^ 63) base.flat
  pub small_cums : All (λ figure. nat_abs figure < 2 ^ 63) base.cum
  pub small_whole : nat_abs base.whole < 2 ^ 63

-- the number is that of a sample that carries the base's label
abbrev pub is_base_number : Profile → ℕ → Bool
is_base_number p n = option_map_or (is_base p) (slice_get p.sample n) false

-- The tallies are those of these keys over the samples with the chosen numbers. No public clause cites it.
pub record HasTallies (l : Loaded) (v : Verdicts) (config : Config) (column : Option ℕ)
    (names : List Key) (chosen : List ℕ) (at : ℕ → Tally) : Type 0 where
  pub seen : List (Seen ℕ)
  pub below : All (HasBelow (length names)) seen
  pub within : absolute seen ≤ absolute_all column config.presentation.divide_by
      (samples_at l.profile chosen)
  pub are : (f : Finders) → HoldsFilters l v config.filtering f
      → map (renamed (written_key l.profile names)) seen
      ≡ seen_samples l.profile f config column (samples_at l.profile chosen)
  pub tallies : (k : ℕ) → IsTallyOf (weighed seen) k (at k)
