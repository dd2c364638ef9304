-- What a report that has no filters counts on a saved profile, and by which columns.
use Rattle.std.specs.Prelude.{◌≡◌, ℕ, ◌<◌, pos, ◌≤ℤ◌, Bool, List, [], length, Some, All}
use Rattle.std.specs.List.{list_any}
use Rattle.pp_model.specs.declared.config.Config.{Config}
use Rattle.pp_model.specs.declared.profile.Profile.{Profile}
use Rattle.pp_model.specs.Finders.{Finders, no_finders}
use Rattle.pp_model.specs.FrameTexts.{Written}
use Rattle.pp_share.specs.Header.{header_of}
use Rattle.pp_count.specs.Column.{column_of}
use Rattle.pp_count.specs.Seeing.{seen_samples}
use Rattle.pp_count.specs.Sums.{weighed, sum_where, absolute}
use Rattle.pp_restack.specs.Stacks.{patternless}

-- The second configuration makes the same keys of the same frames, and has no tag filters. Neither divides values.
pub record SeesAlike (config d : Config) : Type 0 where
  pub grain : d.grouping.grain ≡ config.grouping.grain
  pub showcolumns : d.grouping.showcolumns ≡ config.grouping.showcolumns
  pub noinlines : d.grouping.noinlines ≡ config.grouping.noinlines
  pub divide_by : config.presentation.divide_by ≡ 1
  pub undivided : d.presentation.divide_by ≡ 1
  pub tagfocus : d.filtering.tagfocus ≡ []
  pub tagignore : d.filtering.tagignore ≡ []

-- Without filters, the sum of a column of q over the samples whose keys pass a test is what it is of p with them. The
-- test may ask anything of a sample's keys, so this gives the sums of each key, each leaf and each pair.
abbrev pub KeepsSums : Profile → Finders → Config → Profile → Type 0
KeepsSums p f config q =
    (d : Config) → SeesAlike config d → (test : List Written → Bool) → (column : ℕ)
    → column < length p.sample_type
    → sum_where test (seen_samples q no_finders d (Some column) q.sample)
    ≡ sum_where test (seen_samples p f config (Some column) p.sample)

-- A column counts the same of q without filters as of p with them: some sample whose value isn't 0 passes a test of its
-- keys in both or in neither, so the same keys and pairs occur; and the absolute values add up to the same.
pub record SameKeys (p : Profile) (f : Finders) (config : Config) (q : Profile) (d : Config)
    (column : ℕ) : Type 0 where
  pub some : (test : List Written → Bool)
      → list_any (λ s. test s.keys)
      (weighed (seen_samples q no_finders d (Some column) q.sample))
      ≡ list_any (λ s. test s.keys)
      (weighed (seen_samples p f config (Some column) p.sample))
  pub absolutes : absolute (seen_samples q no_finders d (Some column) q.sample)
      ≡ absolute (seen_samples p f config (Some column) p.sample)

-- Each column does, where no value is below 0.
abbrev pub KeepsKeys : Profile → Finders → Config → Profile → Type 0
KeepsKeys p f config q =
    All (λ s. All (λ v. pos 0 ≤ℤ v) s.value) p.sample → (d : Config) → SeesAlike config d
    → (column : ℕ) → column < length p.sample_type → SameKeys p f config q d column

-- All that is said of q as a whole is what is said of p, but for the two patterns. So each text asks for the same
-- column.
pub record KeepsHeader (p q : Profile) : Type 0 where
  pub header : header_of q [] ≡ patternless p
  pub columns : (text : List ℕ) → column_of q text ≡ column_of p text
