-- What a report's samples come to: the sums of each key that occurs, and the total.
use Rattle.std.specs.Prelude.{◌≡◌, ◌≢◌, ℕ, ◌==◌, Bool, ◌&&◌, List, map, AllPairs, is_some, codes, bytes_eq, if◌then◌else◌, Option}
use Rattle.std.specs.List.{list_any, filter, filter_map, slice_get}
use Rattle.std.specs.Ordering.{eq_by_cmp}
use Rattle.pp_model.specs.declared.config.Config.{Config}
use Rattle.pp_model.specs.declared.profile.Label.{Label}
use Rattle.pp_model.specs.declared.profile.Sample.{Sample}
use Rattle.pp_model.specs.declared.profile.Profile.{Profile}
use Rattle.pp_model.specs.declared.filtering.Filtering.{Filtering}
use Rattle.pp_model.specs.declared.presentation.Presentation.{Presentation}
use Rattle.pp_model.specs.Finders.{Finders}
use Rattle.pp_model.specs.Lookup.{text_of}
use Rattle.pp_model.specs.FrameTexts.{Written}
use Rattle.pp_grain.specs.Keys.{key_cmp, key_written}
use Rattle.pp_count.specs.declared.sums.Sums.{Sums}
use Rattle.pp_count.specs.Sums.{Seen, flat, cum, occurs}
use Rattle.pp_count.specs.Seeing.{filtered_stack, absolute_all}

-- the keys of the names, written out
abbrev pub written_names : Profile → Sums → List Written
written_names p sums = map (key_written p) sums.names

-- The sums are those of these samples: the names are exactly the keys that occur, each once, and each has its flat and
-- its cum at its place.
pub record AreSumsOf (p : Profile) (samples : List (Seen Written)) (sums : Sums) : Type 0 where
  pub occur : (k : Written)
      → list_any (eq_by_cmp key_cmp k) (written_names p sums) ≡ occurs key_cmp samples k
  pub once : AllPairs (λ a b. a ≢ b) (written_names p sums)
  pub flat : sums.flat ≡ map (flat key_cmp samples) (written_names p sums)
  pub cum : sums.cum ≡ map (cum key_cmp samples) (written_names p sums)

-- the label `pprof::base` of the text `true`
abbrev pub is_base_label : Profile → Label → Bool
is_base_label p label =
    bytes_eq (text_of p label.key) (codes "pprof::base")
    && bytes_eq (text_of p label.text) (codes "true")

-- the sample carries it
abbrev pub is_base : Profile → Sample → Bool
is_base p s = list_any (is_base_label p) s.label

-- the samples that the filters leave
abbrev pub filtered_samples : Profile → Finders → Filtering → List Sample → List Sample
filtered_samples p f filtering samples =
    filter (λ s. is_some (filtered_stack p f filtering s)) samples

-- the samples with these numbers; no public clause cites it
abbrev pub samples_at : Profile → List ℕ → List Sample
samples_at p numbers = filter_map (slice_get p.sample) numbers

-- the first, and where it is 0 the second
abbrev pub total_by : ℕ → ℕ → ℕ
total_by base all = if base == 0 then all else base

-- the sum of the absolute selected values of the base's samples among these, and where it is 0 that of all of them
abbrev pub total_over : Profile → Presentation → Option ℕ → List Sample → ℕ
total_over p presentation column samples =
    total_by (absolute_all column presentation.divide_by (filter (is_base p) samples))
    (absolute_all column presentation.divide_by samples)

-- The samples that percentages are taken of: all of these, or under relative_percentages those that the filters leave.
abbrev pub samples_of_total : Profile → Finders → Config → List Sample → List Sample
samples_of_total p f config samples =
    if config.presentation.relative_percentages then filtered_samples p f config.filtering samples
    else samples

-- what percentages are taken of
abbrev pub total_of : Profile → Finders → Config → Option ℕ → ℕ
total_of p f config column =
    total_over p config.presentation column (samples_of_total p f config p.sample)
