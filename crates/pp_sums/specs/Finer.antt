-- A key is the sum of its finer keys: a function is the sum of its lines, and a line that of its addresses.
use Rattle.std.specs.Prelude.{◌≡◌, ℕ, ◌≤ℤ◌, Bool, true, false, map, Option}
use Rattle.std.specs.List.{filter}
use Rattle.std.specs.Ordering.{eq_by_cmp}
use Rattle.pp_model.specs.declared.config.Config.{Config}
use Rattle.pp_model.specs.declared.grouping.Grain.{Grain}
use Rattle.pp_model.specs.declared.grouping.Grain.TheVariants.{Functions, FileFunctions, Files, Lines, Addresses}
use Rattle.pp_model.specs.declared.profile.Profile.{Profile}
use Rattle.pp_model.specs.Finders.{Finders}
use Rattle.pp_model.specs.FrameTexts.{Written}
use Rattle.pp_grain.specs.Keys.{key_cmp, kept_by, is_nameless}
use Rattle.pp_count.specs.Sums.{flat, cum}
use Rattle.pp_count.specs.Seeing.{seen_samples}
use Rattle.pp_count.specs.Counted.{report_samples}
use Rattle.pp_graph.specs.Trim.{all_report_keys}
use Rattle.pp_graph.specs.Trimmed.{int_sum}
use Rattle.pp_laws.specs.Figures.{NoneNegative}

-- the variables with this grain
abbrev pub at_grain : Grain → Config → Config
at_grain grain config = record config { grouping = record config.grouping { grain = grain } }

-- Keys of the second grain tell all that those of the first do.
abbrev pub is_finer : Grain → Grain → Bool
is_finer Functions Files = false
is_finer Functions _ = true
is_finer FileFunctions Functions = false
is_finer FileFunctions Files = false
is_finer FileFunctions _ = true
is_finer Files Functions = false
is_finer Files _ = true
is_finer Lines Lines = true
is_finer Lines Addresses = true
is_finer Lines _ = false
is_finer Addresses Addresses = true
is_finer Addresses _ = false

-- the finer key tells all that the key of this grain does
abbrev pub is_part : Grain → Bool → Written → Written → Bool
is_part grain showcolumns k part = eq_by_cmp key_cmp k (kept_by grain showcolumns part)

-- The flat of the key, by the one grain, is the sum of the flats of its parts among the rows by the other. Where no
-- value is negative, no part has a greater cum.
pub record IsSumOfParts (coarse fine : Grain) (p : Profile) (f : Finders) (config : Config) (column : Option ℕ) (k : Written) : Type 0 where
  pub flat : flat key_cmp (report_samples p f (at_grain coarse config) column) k
      ≡ int_sum (map (flat key_cmp (report_samples p f (at_grain fine config) column))
      (filter (is_part coarse config.grouping.showcolumns k)
      (all_report_keys p f (at_grain fine config) column)))
  pub cum : NoneNegative (seen_samples p f config column p.sample)
      → (part : Written) → is_part coarse config.grouping.showcolumns k part ≡ true
      → cum key_cmp (report_samples p f (at_grain fine config) column) part
      ≤ℤ cum key_cmp (report_samples p f (at_grain coarse config) column) k

-- So it is of each key that has a function, a file or a line.
abbrev pub PartsAddUp : Type 0
PartsAddUp =
    (coarse fine : Grain) (p : Profile) (f : Finders) (config : Config) (column : Option ℕ) (k : Written)
    → is_finer coarse fine ≡ true → is_nameless k ≡ false → IsSumOfParts coarse fine p f config column k
