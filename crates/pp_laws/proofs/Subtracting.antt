-- A difference is a difference: a profile less a base, and less itself.
use Rattle.std.proofs.Common.{◌≡◌, ℕ, suc, ◌<◌, ◌^◌, Bool, true, cond, not, ◌&&◌, ℤ, pos, neg_ℤ, ◌+ℤ◌, ◌-ℤ◌, List, [], ◌∷◌, ◌++◌, length, map, get_or, Some, refl, sym, ap, ◌∙◌, subst, arith}
use Rattle.std.specs.Prelude.{filter}
use Rattle.std.specs.List.{AllByRecursion, list_all}
use Rattle.std.specs.Ordering.{int_eq}
use Rattle.std.proofs.Math.IntN.{+ℤ_idr}
use Rattle.std.proofs.lemmas.Int.{ints}
use Rattle.std.proofs.lemmas.List.{length-map}
use Rattle.pp_base.proofs.Lists.{all_by}
use Rattle.pp_model.specs.declared.config.Config.{Config}
use Rattle.pp_model.specs.declared.profile.Profile.{Profile}
use Rattle.pp_model.specs.declared.profile.Sample.{Sample}
use Rattle.pp_model.specs.declared.report.BaseKind.TheVariants.{Base}
use Rattle.pp_model.specs.Finders.{Finders}
use Rattle.pp_model.specs.Lookup.{text_of}
use Rattle.pp_model.specs.FrameTexts.{Written}
use Rattle.pp_model.specs.Sizes.{value_in}
use Rattle.pp_grain.specs.Keys.{key_cmp}
use Rattle.pp_model.specs.FirstSight.{distinct}
use Rattle.pp_share.specs.Described.{SampleText, location_found, mapping_text, sample_text}
use Rattle.pp_share.specs.Alike.{same_sample, first_alike}
use Rattle.pp_merge.specs.Merge.{all_mappings, all_samples, contents, merged}
use Rattle.pp_merge.specs.Scale.{negated, negated_sample}
use Rattle.pp_share.specs.Sums.{counts, keys_of, rows_of, sum_of}
use Rattle.pp_share.specs.Written.{written_sample}
use Rattle.pp_share.proofs.NumberedLemmas.{all_mapped}
use Rattle.pp_merge.proofs.MergedTotals.{at_total}
use Rattle.pp_merge.proofs.SettledLemmas.{all_any, all_flat}
use Rattle.pp_share.proofs.SumLemmas.{length-total_of}
use Rattle.pp_merge.proofs.TotalLemmas.{total, total-append, total-map, total_same, adding_ℤ}
use Rattle.pp_count.specs.Sums.{weighed, sum_where, has, leads}
use Rattle.pp_count.specs.EdgeSums.{has_edge}
use Rattle.pp_count.specs.Seeing.{seen_samples}
use Rattle.pp_count.specs.Counted.{report_samples}
use Rattle.pp_laws.specs.Merged.{HasValues, AddUp}
use Rattle.pp_laws.specs.Bases.{less_base, BasesSubtract, NothingIsLeft}
use Rattle.pp_laws.proofs.IntSums.{sum_negated}
use Rattle.pp_laws.proofs.Multiplying.{value_negated, if_negated}
use Rattle.pp_laws.proofs.Grouped.{rows_wide, told_in, total_passing}
use Rattle.pp_laws.proofs.Shards.{sum_total, says, sum_of_sources, figure_said, shards_add_up}

-- the negative of a sum
pub total_negated : {X : Type 0} (f : X → ℤ) (xs : List X) → total adding_ℤ (λ x. neg_ℤ (f x)) xs ≡ neg_ℤ (total adding_ℤ f xs)
total_negated f xs = sym (sum_total (λ x. neg_ℤ (f x)) xs) ∙ sum_negated f xs ∙ ap neg_ℤ (sum_total f xs)

-- a negated profile has as many values
values_negated : (n : ℕ) (p : Profile) → HasValues n p → HasValues n (negated Base p)
values_negated n p all = all_mapped (λ s. length s.value ≡ n) negated_sample p.sample (all_by (λ s. length s.value ≡ n) (λ s. length (negated_sample s).value ≡ n) (λ s is. length-map s.value neg_ℤ ∙ is) p.sample all)

all_zero : (row : List ℤ) → ((k : ℕ) → k < length row → get_or row k (pos 0) ≡ pos 0) → list_all (int_eq (pos 0)) row ≡ true
all_zero [] each = refl
all_zero (v ∷ row) each =
    ap (λ z. int_eq (pos 0) z && list_all (int_eq (pos 0)) row) (each 0 (omega arith))
    ∙ all_zero row (λ k within. each (suc k) (omega (arith, within)))

none_counted : (row : SampleText → List ℤ) (keys : List SampleText) → ((key : SampleText) → list_all (int_eq (pos 0)) (row key) ≡ true)
    → filter counts (map (λ key. (key, row key)) keys) ≡ []
none_counted row [] each = refl
none_counted row (key ∷ keys) each =
    ap (λ b. cond (not b) ((key, row key) ∷ filter counts (map (λ k. (k, row k)) keys)) (filter counts (map (λ k. (k, row k)) keys))) (each key)
    ∙ none_counted row keys each

module _ (p : Profile) (values : HasValues (length p.sample_type) p) where
  abbrev both : List Profile
  both = p ∷ negated Base p ∷ []

  abbrev become : Profile → Sample → SampleText × List ℤ
  become q = sample_text (location_found (first_alike (all_mappings both)) q) (text_of q)

  wide : AllByRecursion (HasValues (length p.sample_type)) both
  wide = (values, (values_negated (length p.sample_type) p values, tt))

  -- what a sample adds to the sum of a key
  abbrev adds : SampleText → ℕ → SampleText × List ℤ → ℤ
  adds key column item = cond (same_sample key item.0) (get_or item.1 column (pos 0)) (pos 0)

  adds_negated : (key : SampleText) (column : ℕ) (s : Sample) → adds key column (become (negated Base p) (negated_sample s)) ≡ neg_ℤ (adds key column (become p s))
  adds_negated key column s = if_negated (same_sample key (become p s).0) (get_or s.value column (pos 0)) (get_or (map neg_ℤ s.value) column (pos 0)) (value_negated s.value column)

  cancels : (a : ℤ) → a +ℤ (neg_ℤ a +ℤ pos 0) ≡ pos 0
  cancels a = omega (arith, ints)

  key_cancels : (key : SampleText) (column : ℕ) → total adding_ℤ (λ row. get_or row column (pos 0)) (rows_of same_sample (all_samples both) key) ≡ pos 0
  key_cancels key column =
      let f : SampleText × List ℤ → ℤ = adds key column in
      let ours : ℤ = total adding_ℤ (λ s. f (become p s)) p.sample in
      total-map adding_ℤ (λ row. get_or row column (pos 0)) (λ (item : SampleText × List ℤ). item.1) (filter (λ (item : SampleText × List ℤ). same_sample key item.0) (all_samples both))
      ∙ total_passing (λ (item : SampleText × List ℤ). get_or item.1 column (pos 0)) (λ item. same_sample key item.0) (all_samples both)
      ∙ total-append adding_ℤ f (map (become p) p.sample) (map (become (negated Base p)) (map negated_sample p.sample) ++ [])
      ∙ (λ i. total-map adding_ℤ f (become p) p.sample i
      +ℤ (total-append adding_ℤ f (map (become (negated Base p)) (map negated_sample p.sample)) []
      ∙ ap (λ v. v +ℤ pos 0) (total-map adding_ℤ f (become (negated Base p)) (map negated_sample p.sample)
      ∙ total-map adding_ℤ (λ s. f (become (negated Base p) s)) negated_sample p.sample
      ∙ total_same adding_ℤ (λ s. f (become (negated Base p) (negated_sample s))) (λ s. neg_ℤ (f (become p s))) p.sample (all_any _ (adds_negated key column) p.sample)
      ∙ total_negated (λ s. f (become p s)) p.sample)) i)
      ∙ cancels ours

  row_cancels : (key : SampleText) → list_all (int_eq (pos 0)) (sum_of same_sample (length p.sample_type) (all_samples both) key) ≡ true
  row_cancels key = all_zero (sum_of same_sample (length p.sample_type) (all_samples both) key) (λ column within.
      at_total (length p.sample_type) column (rows_of same_sample (all_samples both) key)
      (omega (arith, within, length-total_of (length p.sample_type) (rows_of same_sample (all_samples both) key)))
      (rows_wide p (negated Base p ∷ []) wide key)
      ∙ key_cancels key column)

  nothing : (less_base Base p p).sample ≡ []
  nothing = ap (map (written_sample (contents p (negated Base p ∷ []))))
      (none_counted (sum_of same_sample (length p.sample_type) (all_samples both)) (distinct same_sample (keys_of same_sample (all_samples both))) row_cancels)

pub nothing_is_left : NothingIsLeft
nothing_is_left p values = record {
  samples = nothing p values;
  reports = λ f config column. ap (λ ss. weighed (seen_samples (less_base Base p p) f config column ss)) (nothing p values);
}

module _ (f : Finders) (config : Config) (column : ℕ) (divisor : config.presentation.divide_by ≡ 1) where
  abbrev pub said : (List Written → Bool) → Profile → ℤ
  said test q = sum_of_sources f config column divisor test q [] q

  abbrev pub figure : (List Written → Bool) → Profile → ℤ
  figure test q = sum_where test (report_samples q f config (Some column))

  pub alone : (test : List Written → Bool) (q : Profile) → AllByRecursion (λ m. m.start < 2 ^ 64) q.mapping → HasValues (length q.sample_type) q → column < length q.sample_type
      → figure test (merged q []) ≡ said test q
  alone test q starts values within =
      figure_said f config column divisor q []
      (all_flat (λ m. m.start < 2 ^ 64) (λ r. map (mapping_text r) r.mapping) (q ∷ []) (all_mapped (λ m. m.start < 2 ^ 64) (mapping_text q) q.mapping starts, tt))
      (values, tt) within test ∙ +ℤ_idr (said test q)

  said_negated : (test : List Written → Bool) (q : Profile) → said test (negated Base q) ≡ neg_ℤ (said test q)
  said_negated test q =
      let tells : SampleText → Bool = says f config column divisor test in
      let value : Sample → ℤ = λ s. cond (tells (told_in q [] q s)) (value_in s column) (pos 0) in
      total-map adding_ℤ (λ s. cond (tells (told_in (negated Base q) [] (negated Base q) s)) (value_in s column) (pos 0)) negated_sample q.sample
      ∙ total_same adding_ℤ (λ s. cond (tells (told_in (negated Base q) [] (negated Base q) (negated_sample s))) (value_in (negated_sample s) column) (pos 0)) (λ s. neg_ℤ (value s)) q.sample
      (all_any _ (λ s. if_negated (tells (told_in q [] q s)) (value_in s column) (value_in (negated_sample s) column) (value_negated s.value column)) q.sample)
      ∙ total_negated value q.sample

  pub added_less : (x y z : ℤ) → z ≡ neg_ℤ y → x +ℤ (z +ℤ pos 0) ≡ x -ℤ y
  added_less x y z is = omega (arith, ints, is)

  subtracts : (p base : Profile) → AddUp p (base ∷ []) config column → (test : List Written → Bool)
      → figure test (less_base Base p base) ≡ figure test (merged p []) -ℤ figure test (merged base [])
  subtracts p base can test =
      let values : HasValues (length base.sample_type) base = subst (λ n. HasValues n base) (sym can.types.1.0) can.values.1.0 in
      let within : column < length base.sample_type = subst (λ n. column < n) (sym can.types.1.0) can.within in
      shards_add_up f config column divisor p (negated Base base ∷ []) (record {
        within = can.within;
        types = can.types;
        values = (can.values.0, (values_negated (length p.sample_type) base can.values.1.0, tt));
        starts = can.starts;
        mappings = can.mappings;
        divisor = divisor;
      }) test
      ∙ added_less (figure test (merged p [])) (figure test (merged base [])) (figure test (merged (negated Base base) []))
      (alone test (negated Base base) can.starts.1.0 (values_negated (length base.sample_type) base values) within
      ∙ said_negated test base ∙ ap neg_ℤ (sym (alone test base can.starts.1.0 values within)))

pub bases_subtract : BasesSubtract
bases_subtract p base f config column can =
    let each = subtracts f config column can.divisor p base can in
    record {
      flat = λ k. each (leads key_cmp k);
      cum = λ k. each (has key_cmp k);
      edge = λ kept a b. each (has_edge key_cmp kept a b);
    }
