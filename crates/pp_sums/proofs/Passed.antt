-- Reports of a file from which a part was dropped.
use Rattle.std.proofs.Common.{◌≡◌, ℕ, ◌<◌, ◌^◌, Bool, nat_abs, List, [], ◌∷◌, length, Some, sym, ap, subst, ◌∙◌}
use Rattle.std.specs.List.{AllByRecursion}
use Rattle.std.proofs.Math.IntN.{+ℤ_idr}
use Rattle.std.proofs.lemmas.List.{length-map}
use Rattle.pp_model.specs.declared.config.Config.{Config}
use Rattle.pp_model.specs.declared.profile.Mapping.{Mapping}
use Rattle.pp_model.specs.declared.profile.Profile.{Profile}
use Rattle.pp_model.specs.Finders.{Finders}
use Rattle.pp_model.specs.FrameTexts.{Written}
use Rattle.pp_share.specs.Described.{SampleText}
use Rattle.pp_merge.specs.Merge.{contents, merged}
use Rattle.pp_share.specs.Written.{Contents, written_type}
use Rattle.pp_share.specs.Header.{type_text}
use Rattle.pp_share.proofs.NumberedLemmas.{all_mapped}
use Rattle.pp_merge.proofs.SettledLemmas.{settled_contents}
use Rattle.pp_merge.proofs.WrittenAgain.{contents_again}
use Rattle.pp_count.specs.Counts.{total_by, total_of}
use Rattle.pp_count.specs.Counted.{report_samples}
use Rattle.pp_count.specs.Sums.{sum_where}
use Rattle.pp_aggregate.specs.declared.aggregating.Kept.{Kept}
use Rattle.pp_aggregate.specs.Aggregated.{aggregated, aggregated_mapping}
use Rattle.pp_aggregate.proofs.ReportLemmas.{frames_are_left, samples_are_same}
use Rattle.pp_laws.specs.Merged.{HasValues}
use Rattle.pp_laws.proofs.Within.{values_within}
use Rattle.pp_laws.proofs.LoadedOrder.{same_columns}
use Rattle.pp_sums.specs.Same.{HaveSameSums, HaveSameRows, HasNoNegative}
use Rattle.pp_sums.specs.Coarser.{IsLoaded, LooksAtNothing, passed_on, PassedSumsStay, PassedRowsStay, PassedColumnsStay}
use Rattle.pp_sums.proofs.Above.{merged_above}
use Rattle.pp_sums.proofs.Plain.{loaded_plain, kept_plain, merges_are_loaded, values_of}
use Rattle.pp_sums.proofs.RowsAlike.{sums_alike, rows_alike}
use Rattle.pp_sums.proofs.Sizes.{asked, asked_of_sources, counts_in, counts_in_base, total_said}
use Rattle.pp_sums.proofs.Told.{IsPlain, loading_keeps}

-- a merge has as many types as its first source
pub types_of : (p : Profile) (ps : List Profile) → length (merged p ps).sample_type ≡ length p.sample_type
types_of p ps = length-map (contents p ps).header.types (written_type (contents p ps)) ∙ length-map p.sample_type (type_text p)

-- The profile merged alone, where it is plain.
module _ (q : Profile) (plain : IsPlain q) (starts : AllByRecursion (λ m. m.start < 2 ^ 64) q.mapping)
    (f : Finders) (config : Config) (column : ℕ) (within : column < length q.sample_type) (divisor : config.presentation.divide_by ≡ 1) (none : HasNoNegative column q) where
  abbrev alone : Profile
  alone = merged q []

  values : AllByRecursion (HasValues (length q.sample_type)) (q ∷ [])
  values = (values_of q plain.valid, tt)

  alone_plain : IsPlain alone
  alone_plain = loaded_plain alone (merges_are_loaded q [] (starts, tt))

  pub alone_above : HasNoNegative column alone
  alone_above = merged_above q [] values column within (none, tt)

  asked_alone : (asks : SampleText → Bool) → asked asks column alone [] alone ≡ asked asks column q [] q
  asked_alone asks =
      asked_of_sources asks column q [] (settled_contents q [] plain.starts) (values_of alone alone_plain.valid) values within (subst (λ n. column < n) (sym (types_of q [])) within)
      ∙ +ℤ_idr (asked asks column q [] q)

  -- it has the same total
  pub alone_total : total_of alone f config (Some column) ≡ total_of q f config (Some column)
  alone_total =
      total_said f config column divisor alone alone_plain alone_above
      ∙ (λ i. total_by (nat_abs (asked_alone (counts_in_base f config column divisor) i)) (nat_abs (asked_alone (counts_in f config column divisor) i)))
      ∙ sym (total_said f config column divisor q plain none)

module _ (keep : Kept) (p : Profile) (f : Finders) (config : Config) (column : ℕ) (loaded : IsLoaded p) (nothing : LooksAtNothing keep p f config.grouping)
    (within : column < length p.sample_type) (divisor : config.presentation.divide_by ≡ 1) where
  abbrev kept : Profile
  kept = aggregated keep p

  plain : IsPlain p
  plain = loaded_plain p loaded

  left : IsPlain kept
  left = kept_plain keep p plain

  same_sums : (test : List Written → Bool) → sum_where test (report_samples (passed_on keep p) f config (Some column)) ≡ sum_where test (report_samples p f config (Some column))
  same_sums test =
      loading_keeps f config column divisor kept left (values_of kept left.valid) within test
      ∙ ap (sum_where test) (samples_are_same keep p f config (Some column) plain.valid nothing.frames nothing.keys)

  starts : AllByRecursion (λ m. m.start < 2 ^ 64) kept.mapping
  starts = all_mapped (λ (m : Mapping). m.start < 2 ^ 64) (aggregated_mapping keep) p.mapping loaded.starts

  same_total : HasNoNegative column p → total_of (passed_on keep p) f config (Some column) ≡ total_of p f config (Some column)
  same_total none =
      alone_total kept left starts f config column within divisor none
      ∙ (frames_are_left keep p f config (Some column) plain.valid nothing.frames).total

  pub passed_alike : HaveSameSums (passed_on keep p) p f config (Some column)
  passed_alike = sums_alike (passed_on keep p) p f config (Some column) same_sums

  pub passed_rows_alike : HasNoNegative column p → HaveSameRows (passed_on keep p) p f config (Some column)
  passed_rows_alike none =
      rows_alike (passed_on keep p) p f config (Some column) same_sums
      (values_within (passed_on keep p) f config column (alone_above kept left starts f config column within divisor none))
      (values_within p f config column none) (same_total none)

pub passed_sums_stay : PassedSumsStay
passed_sums_stay keep p f config column loaded nothing within divisor = passed_alike keep p f config column loaded nothing within divisor

pub passed_rows_stay : PassedRowsStay
passed_rows_stay keep p f config column loaded nothing within divisor none = passed_rows_alike keep p f config column loaded nothing within divisor none

pub passed_columns_stay : PassedColumnsStay
passed_columns_stay keep p text loaded =
    let left : IsPlain (aggregated keep p) = kept_plain keep p (loaded_plain p loaded) in
    same_columns p (passed_on keep p)
    (ap (λ (c : Contents). c.header) (contents_again (contents (aggregated keep p) []) (settled_contents (aggregated keep p) [] left.starts)))
    text
