-- Nothing is lost and nothing made up: what the flats of a report add up to.
use Rattle.std.specs.Prelude.{◌≡◌, ℕ, map, Option}
use Rattle.pp_model.specs.declared.config.Config.{Config}
use Rattle.pp_model.specs.declared.loaded.Loaded.{Loaded}
use Rattle.pp_model.specs.declared.profile.Profile.{Profile}
use Rattle.pp_model.specs.declared.verdicts.Verdicts.{Verdicts}
use Rattle.pp_model.specs.Finders.{Finders}
use Rattle.pp_grain.specs.Keys.{key_cmp}
use Rattle.pp_count.specs.declared.counted.Counted.{Counted}
use Rattle.pp_count.specs.Sums.{flat, sum_where}
use Rattle.pp_count.specs.Seeing.{HoldsFilters, seen_samples}
use Rattle.pp_count.specs.Counted.{IsCountedOf, report_samples}
use Rattle.pp_graph.specs.Trim.{report_keys, all_report_keys}
use Rattle.pp_graph.specs.Trimmed.{int_sum}
use Rattle.pp_laws.specs.Figures.{has_frames}

-- The flats that are counted add up to the selected values of the filtered samples of which some frame counts.
abbrev pub FlatsAddUp : Type 0
FlatsAddUp =
    (l : Loaded) (v : Verdicts) (config : Config) (column : Option ℕ) (c : Counted) (f : Finders)
    → IsCountedOf l v config column c → HoldsFilters l v config.filtering f
    → int_sum c.sums.flat
    ≡ sum_where has_frames (seen_samples l.profile f config column l.profile.sample)

-- So do the flats of the rows that a report shows, where no row is hidden.
abbrev pub RowsAddUp : Type 0
RowsAddUp =
    (p : Profile) (f : Finders) (config : Config) (column : Option ℕ)
    → config.presentation.nodefraction.billionths ≡ 0
    → int_sum (map (flat key_cmp (report_samples p f config column)) (report_keys p f config column 0))
    ≡ sum_where has_frames (seen_samples p f config column p.sample)

-- And those of all keys that occur, however light: the rows of a table report without a limit.
abbrev pub AllKeysAddUp : Type 0
AllKeysAddUp =
    (p : Profile) (f : Finders) (config : Config) (column : Option ℕ)
    → int_sum (map (flat key_cmp (report_samples p f config column)) (all_report_keys p f config column))
    ≡ sum_where has_frames (seen_samples p f config column p.sample)
