-- Reports that do not look at what is dropped stay the same.
use Rattle.std.specs.Prelude.{◌≡◌, ℕ, true, List, map, Option}
use Rattle.pp_model.specs.declared.config.Config.{Config}
use Rattle.pp_model.specs.declared.profile.Profile.{Profile}
use Rattle.pp_model.specs.declared.profile.Sample.{Sample}
use Rattle.pp_model.specs.declared.grouping.Grouping.{Grouping}
use Rattle.pp_model.specs.Finders.{Finders}
use Rattle.pp_model.specs.Frames.{stack_of}
use Rattle.pp_model.specs.Rules.{NoRuleFails}
use Rattle.pp_count.specs.Column.{column_of}
use Rattle.pp_count.specs.Sums.{renamed}
use Rattle.pp_count.specs.Seeing.{keys_of_stack, filtered_from}
use Rattle.pp_count.specs.declared.sums.Sums.{Sums}
use Rattle.pp_count.specs.Counts.{AreSumsOf, total_of}
use Rattle.pp_count.specs.Counted.{report_samples, report_frames, has_own_match}
use Rattle.pp_count.specs.Matches.{matches_of}
use Rattle.pp_aggregate.specs.declared.aggregating.Kept.{Kept}
use Rattle.pp_aggregate.specs.Aggregated.{aggregated}
use Rattle.pp_aggregate.specs.Left.{left_of_frame, keeps_keys, keeps_counted, FramesStay, FindsLeft, AsksNoFrame}

-- Without filters the keys of each stack stay, at each grain that looks at nothing that is dropped.
abbrev pub KeysStay : Type 0
KeysStay =
    (keep : Kept) (p : Profile) (grouping : Grouping) (s : Sample)
    → NoRuleFails p → keeps_counted keep grouping ≡ true
    → keeps_keys keep grouping.grain grouping.showcolumns ≡ true
    → keys_of_stack (aggregated keep p) grouping (stack_of (aggregated keep p) s)
    ≡ keys_of_stack p grouping (stack_of p s)

-- With filters, the samples that are kept are the same, of the same values, with what is left of the frames that count.
-- The same options match something, and the own pattern of a report finds a function where it found one.
pub record AreLeft (keep : Kept) (p : Profile) (f : Finders) (config : Config) (column : Option ℕ) : Type 0 where
  pub numbers
      : filtered_from (aggregated keep p) f config.filtering 0 p.sample
      ≡ filtered_from p f config.filtering 0 p.sample
  pub total : total_of (aggregated keep p) f config column ≡ total_of p f config column
  pub frames
      : report_frames (aggregated keep p) f config column
      ≡ map (renamed (left_of_frame keep)) (report_frames p f config column)
  pub matches : matches_of (aggregated keep p) f config.filtering ≡ matches_of p f config.filtering
  pub own : keep.functions ≡ true
      → has_own_match (aggregated keep p) f config column ≡ has_own_match p f config column

-- So it is at every grain, where no pattern misses what is dropped, and no frame that is dropped counts.
abbrev pub FramesAreLeft : Type 0
FramesAreLeft =
    (keep : Kept) (p : Profile) (f : Finders) (config : Config) (column : Option ℕ)
    → NoRuleFails p → FramesStay keep p f config.grouping → AreLeft keep p f config column

-- At a grain that looks at nothing that is dropped a report has the same samples by keys, so the same figures.
abbrev pub SamplesStay : Type 0
SamplesStay =
    (keep : Kept) (p : Profile) (f : Finders) (config : Config) (column : Option ℕ)
    → NoRuleFails p → FramesStay keep p f config.grouping
    → keeps_keys keep config.grouping.grain config.grouping.showcolumns ≡ true
    → report_samples (aggregated keep p) f config column ≡ report_samples p f config column

-- Sums by keys, as counting gives them of the one, are those of the other: their keys name the same texts.
abbrev pub SumsStay : Type 0
SumsStay =
    (keep : Kept) (p : Profile) (f : Finders) (config : Config) (column : Option ℕ) (sums : Sums)
    → NoRuleFails p → FramesStay keep p f config.grouping
    → keeps_keys keep config.grouping.grain config.grouping.showcolumns ≡ true
    → AreSumsOf p (report_samples p f config column) sums
    → AreSumsOf (aggregated keep p) (report_samples (aggregated keep p) f config column) sums

-- a text means one and the same column before and after
abbrev pub ColumnsStay : Type 0
ColumnsStay = (keep : Kept) (p : Profile) (text : List ℕ) → column_of (aggregated keep p) text ≡ column_of p text

-- Patterns find in what is left what they found before. So it is for all patterns where functions and files keep their
-- names, and else where no pattern is asked of frames.
pub record PatternsStay : Type 0 where
  pub named : (keep : Kept) (p : Profile) (f : Finders)
      → keep.functions ≡ true → keep.filenames ≡ true → FindsLeft keep p f
  pub none : (keep : Kept) (p : Profile) (f : Finders) → AsksNoFrame f → FindsLeft keep p f
