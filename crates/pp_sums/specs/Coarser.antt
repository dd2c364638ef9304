-- Reports of a file in which is dropped what they do not look at.
use Rattle.std.specs.Prelude.{◌≡◌, ℕ, ◌<◌, ◌^◌, true, List, [], ◌∷◌, length, Some}
use Rattle.std.specs.List.{AllByRecursion}
use Rattle.pp_model.specs.declared.config.Config.{Config}
use Rattle.pp_model.specs.declared.profile.Profile.{Profile}
use Rattle.pp_model.specs.declared.grouping.Grouping.{Grouping}
use Rattle.pp_model.specs.Finders.{Finders}
use Rattle.pp_merge.specs.Merge.{merged}
use Rattle.pp_count.specs.Column.{column_of}
use Rattle.pp_aggregate.specs.declared.aggregating.Kept.{Kept}
use Rattle.pp_aggregate.specs.Aggregated.{aggregated}
use Rattle.pp_aggregate.specs.Left.{FramesStay, keeps_keys}
use Rattle.pp_sums.specs.Same.{HaveSameSums, HaveSameRows, HasNoNegative}

-- A profile as loading gives it: it stays as it is when it is merged alone, and no mapping starts past 64 bits.
pub record IsLoaded (p : Profile) : Type 0 where
  pub starts : AllByRecursion (λ m. m.start < 2 ^ 64) p.mapping
  pub alone : merged p [] ≡ p

-- Every merge is such a profile.
abbrev pub MergesAreLoaded : Type 0
MergesAreLoaded =
    (p : Profile) (ps : List Profile)
    → AllByRecursion (λ q. AllByRecursion (λ m. m.start < 2 ^ 64) q.mapping) (p ∷ ps) → IsLoaded (merged p ps)

-- What a reader loads of the file in which the profile is written with what is kept of it: loading merges it alone.
abbrev pub passed_on : Kept → Profile → Profile
passed_on keep p = merged (aggregated keep p) []

-- The report looks at nothing that is dropped: not by its keys, not by its patterns, and not at an inlined frame.
pub record LooksAtNothing (keep : Kept) (p : Profile) (f : Finders) (grouping : Grouping)
    : Type 0 where
  pub frames : FramesStay keep p f grouping
  pub keys : keeps_keys keep grouping.grain grouping.showcolumns ≡ true

-- A reader's report has the same flat, cum and edges, where values are divided by 1.
abbrev pub PassedSumsStay : Type 0
PassedSumsStay =
    (keep : Kept) (p : Profile) (f : Finders) (config : Config) (column : ℕ)
    → IsLoaded p → LooksAtNothing keep p f config.grouping → column < length p.sample_type
    → config.presentation.divide_by ≡ 1
    → HaveSameSums (passed_on keep p) p f config (Some column)

-- Where no value of the column is negative, it has the same keys, total and rows, too.
abbrev pub PassedRowsStay : Type 0
PassedRowsStay =
    (keep : Kept) (p : Profile) (f : Finders) (config : Config) (column : ℕ)
    → IsLoaded p → LooksAtNothing keep p f config.grouping → column < length p.sample_type
    → config.presentation.divide_by ≡ 1
    → HasNoNegative column p → HaveSameRows (passed_on keep p) p f config (Some column)

-- A text asks for the same column of both.
abbrev pub PassedColumnsStay : Type 0
PassedColumnsStay =
    (keep : Kept) (p : Profile) (text : List ℕ) → IsLoaded p → column_of (passed_on keep p) text ≡ column_of p text
