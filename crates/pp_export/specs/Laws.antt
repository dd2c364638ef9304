-- Laws of the reports for other programs: what their numbers add up to.
use Rattle.std.specs.Prelude.{◌≡◌, ℕ, ◌<◌, ℤ, Bool, not, List, map, take, reverse, Option}
use Rattle.std.specs.List.{filter}
use Rattle.pp_model.specs.declared.config.Config.{Config}
use Rattle.pp_model.specs.declared.profile.Profile.{Profile}
use Rattle.pp_model.specs.Finders.{Finders}
use Rattle.pp_model.specs.FrameTexts.{Written}
use Rattle.pp_grain.specs.Keys.{key_cmp}
use Rattle.pp_calltree.specs.CallPaths.{CallPath, has_sum, report_paths}
use Rattle.pp_calltree.specs.CallTree.{is_end}
use Rattle.pp_count.specs.Counted.{report_samples}
use Rattle.pp_count.specs.Seeing.{seen_samples}
use Rattle.pp_count.specs.Sums.{flat, leads, sum_where}
use Rattle.pp_graph.specs.Figures.{figures}
use Rattle.pp_graph.specs.KeyRows.{key_row}
use Rattle.pp_graph.specs.Trim.{first_report_keys}
use Rattle.pp_graph.specs.Trimmed.{int_sum}
use Rattle.pp_export.specs.Table.{row_line}

-- some frame of a sample counts
abbrev pub has_names : {K : Type 0} → List K → Bool
has_names keys = not (is_end keys)

-- the paths that have a line in the folded report
abbrev pub printed_paths : Profile → Finders → Config → Option ℕ → List (CallPath Written)
printed_paths p f config column = filter has_sum (report_paths p f config column)

-- what the sums of paths add up to
abbrev pub paths_sum : List (CallPath Written) → ℤ
paths_sum paths = int_sum (map (λ path. path.sum) paths)

-- the path ends with the key
abbrev pub ends_with : Written → CallPath Written → Bool
ends_with k path = leads key_cmp k (reverse path.keys)

-- The lines of the folded report add up to the selected values of the filtered samples of which some frame counts.
abbrev pub LinesAddUp : Type 0
LinesAddUp =
    (p : Profile) (f : Finders) (config : Config) (column : Option ℕ)
    → paths_sum (printed_paths p f config column)
    ≡ sum_where has_names (seen_samples p f config column p.sample)

-- Those whose last key is a given one add up to its flat.
abbrev pub LinesOfKeysAddUp : Type 0
LinesOfKeysAddUp =
    (p : Profile) (f : Finders) (config : Config) (column : Option ℕ) (k : Written)
    → paths_sum (filter (ends_with k) (printed_paths p f config column))
    ≡ flat key_cmp (report_samples p f config column) k

-- the lines of the table report below its first
abbrev pub table_lines : Profile → Finders → Config → Option ℕ → ℕ → List (List ℕ)
table_lines p f config column limit =
    map row_line (map (key_row (figures p f config column))
    (first_report_keys p f config column limit))

-- The lines of the table report under a limit are the first of those without one.
abbrev pub LimitsCut : Type 0
LimitsCut =
    (p : Profile) (f : Finders) (config : Config) (column : Option ℕ) (limit : ℕ) → 0 < limit
    → table_lines p f config column limit ≡ take limit (table_lines p f config column 0)
