-- A saved profile reports as its filters did.
use Rattle.std.specs.Prelude.{◌≡◌, ◌<◌, ◌≤◌, ◌^◌, ℕ, List, [], length, Option}
use Rattle.std.specs.List.{AllByRecursion}
use Rattle.pp_model.specs.declared.config.Config.{Config}
use Rattle.pp_model.specs.declared.profile.Profile.{Profile}
use Rattle.pp_model.specs.declared.filtering.Filtering.{Filtering}
use Rattle.pp_model.specs.Conditions.{IsColumnOf}
use Rattle.pp_model.specs.Finders.{Finders, no_finders}
use Rattle.pp_units.specs.Head.{Facts}
use Rattle.pp_model.specs.Rules.{NoRuleFails}
use Rattle.pp_model.specs.Sizes.{absolute_sum}
use Rattle.pp_model.specs.Defaults.{standard_filtering}
use Rattle.pp_merge.specs.Merge.{merged}
use Rattle.pp_count.specs.Column.{column_of}
use Rattle.pp_count.specs.Counted.{has_own_match}
use Rattle.pp_dump.specs.Saved.{saved}
use Rattle.pp_top.specs.Top.{top_text}
use Rattle.pp_tree.specs.Tree.{tree_text}
use Rattle.pp_tree.specs.Peek.{peek_text}
use Rattle.pp_export.specs.Folded.{folded_text}
use Rattle.pp_export.specs.Table.{exact_table}
use Rattle.pp_report.specs.SavedText.{IsLasting}
use Rattle.pp_saved.specs.Headed.{headed_figures}
use Rattle.pp_saved.specs.Premises.{CanSave, unfiltered, own_alone}

-- Without filters a saved profile has the figures that the profile has with them.
abbrev pub SavedFigures : Type 0
SavedFigures =
    (p : Profile) (f : Finders) (config : Config) (column : Option ℕ)
    → CanSave p config.presentation → IsColumnOf p column
    → headed_figures (saved p f config.filtering) (own_alone f) (unfiltered config) column
    ≡ headed_figures p f config column

-- The two reports print the same: top, tree and peek under the same head, whether peek finds anything, table of the
-- same unit, and folded.
pub record PrintAlike (p : Profile) (f : Finders) (config : Config) (q : Profile) (g : Finders) (d : Config)
    (column : Option ℕ) : Type 0 where
  pub top : (limit : ℕ) (h : Facts)
      → top_text q g d column limit h ≡ top_text p f config column limit h
  pub tree : (limit : ℕ) (h : Facts)
      → tree_text q g d column limit h ≡ tree_text p f config column limit h
  pub found : has_own_match q g d column ≡ has_own_match p f config column
  pub peek : (h : Facts) → peek_text q g d column h ≡ peek_text p f config column h
  pub table : (limit : ℕ) (unit : List ℕ)
      → exact_table q g d column limit unit ≡ exact_table p f config column limit unit
  pub folded : folded_text q g d column ≡ folded_text p f config column

-- So do a saved profile without filters and the profile with them.
abbrev pub SavedTexts : Type 0
SavedTexts =
    (p : Profile) (f : Finders) (config : Config) (column : Option ℕ)
    → CanSave p config.presentation → IsColumnOf p column
    → PrintAlike p f config (saved p f config.filtering) (own_alone f) (unfiltered config) column

-- A text asks for the same column of both.
abbrev pub SavedColumns : Type 0
SavedColumns =
    (p : Profile) (f : Finders) (config : Config) (text : List ℕ)
    → CanSave p config.presentation → column_of (saved p f config.filtering) text ≡ column_of p text

-- A saved profile lasts, under three premises on the profile that it is saved from. No table rule fails
-- there, its mappings start below 2^64, and it stays as it is when it is merged alone.
abbrev pub SavedLasts : Type 0
SavedLasts =
    (p : Profile) (f : Finders) (config : Config)
    → NoRuleFails p → AllByRecursion (λ m. m.start < 2 ^ 64) p.mapping → merged p [] ≡ p
    → IsLasting (saved p f config.filtering)

-- Such a profile is itself when it is saved without filters. So saving a saved profile again changes nothing.
abbrev pub SavedWhole : Type 0
SavedWhole = (p : Profile) → IsLasting p → saved p no_finders standard_filtering ≡ p

-- The absolute values of a column add up to no more in the saved profile, so it can be merged where the other one can.
abbrev pub SavedSizes : Type 0
SavedSizes =
    (p : Profile) (f : Finders) (filtering : Filtering) (column : ℕ) → NoRuleFails p → column < length p.sample_type
    → absolute_sum (saved p f filtering) column ≤ absolute_sum p column
