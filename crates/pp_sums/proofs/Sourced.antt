-- Which keys a merge has, and what the order of its sources decides.
use Rattle.std.proofs.Common.{◌≡◌, ℕ, ◌<◌, Bool, true, cond, ◌&&◌, ◌||◌, ℤ, pos, nat_abs, List, [], ◌∷◌, length, map, ◌==◌, Option, Some, None, option_map, refl, sym, ap, subst, ◌∙◌}
use Rattle.std.specs.Prelude.{◌≤ℤ◌}
use Rattle.std.specs.List.{AllByRecursion, list_any}
use Rattle.std.specs.List.Sorted.{IsPermutation}
use Rattle.std.proofs.lemmas.List.Sorted.{All-permutation}
use Rattle.std.proofs.lemmas.List.Elements.{All-from_recursion, recursion_from_All}
use Rattle.pp_base.proofs.Lists.{all_by}
use Rattle.pp_model.specs.declared.config.Config.{Config}
use Rattle.pp_model.specs.declared.grouping.Grain.TheVariants.{Addresses}
use Rattle.pp_model.specs.declared.profile.Mapping.{Mapping}
use Rattle.pp_model.specs.declared.profile.Profile.{Profile}
use Rattle.pp_model.specs.declared.profile.Sample.{Sample}
use Rattle.pp_model.specs.Finders.{Finders}
use Rattle.pp_model.specs.FrameTexts.{Written}
use Rattle.pp_model.specs.Lookup.{text_of, mapping_with}
use Rattle.pp_model.specs.Sizes.{value_in}
use Rattle.pp_grain.specs.Keys.{key_cmp}
use Rattle.pp_share.specs.Described.{MappingText, SampleText, label_text, mapping_text, mapping_found, start_of}
use Rattle.pp_share.specs.Alike.{first_alike}
use Rattle.pp_share.proofs.NumberedLemmas.{all_both}
use Rattle.pp_merge.specs.Merge.{all_mappings, merged}
use Rattle.pp_merge.proofs.SettledLemmas.{all_any, found_holds, settled_contents}
use Rattle.pp_merge.proofs.TotalLemmas.{total_same, adding_ℤ}
use Rattle.pp_count.specs.Counts.{total_by, total_of}
use Rattle.pp_count.specs.Counted.{report_samples}
use Rattle.pp_count.specs.EdgeSums.{has_edge}
use Rattle.pp_count.specs.Seeing.{seen_samples}
use Rattle.pp_count.specs.Sums.{sum_where, has}
use Rattle.pp_laws.specs.Figures.{NoneNegative}
use Rattle.pp_laws.specs.Merged.{AddUp, HasValues, KeepsMappings}
use Rattle.pp_laws.proofs.Comparing.{tell_base}
use Rattle.pp_laws.proofs.Grouped.{told_in}
use Rattle.pp_laws.proofs.IntSums.{sum_over, sum_each, sum_permuted}
use Rattle.pp_laws.proofs.Sampling.{none_weighed, sum_where_above}
use Rattle.pp_laws.proofs.SeenAs.{passes}
use Rattle.pp_laws.proofs.Shards.{says, sum_total, shards_add_up}
use Rattle.pp_laws.proofs.Tagging.{tags_told}
use Rattle.pp_laws.proofs.Telling.{file_of, same_told}
use Rattle.pp_laws.proofs.Within.{values_within}
use Rattle.pp_sums.specs.Same.{HasNoNegative}
use Rattle.pp_sums.specs.Sources.{HasKeysOfSources, NoKeyVanishes, SourceOrderKeepsSums, SourceOrderKeepsRows}
use Rattle.pp_sums.proofs.Above.{merged_above}
use Rattle.pp_sums.proofs.Moved.{add_up_moved}
use Rattle.pp_sums.proofs.Passed.{types_of}
use Rattle.pp_sums.proofs.Plain.{loaded_plain, merges_are_loaded, starts_said, values_of}
use Rattle.pp_sums.proofs.RowsAlike.{sums_alike, rows_alike}
use Rattle.pp_sums.proofs.Signs.{isnt_zero, found_is_sum, some_is_sum}
use Rattle.pp_sums.proofs.Sizes.{asked, asked_of_sources, counts_in, counts_in_base, total_said}
use Rattle.pp_sums.proofs.Told.{IsPlain}

any_same : {X : Type 0} (a b : X → Bool) (xs : List X) → AllByRecursion (λ x. a x ≡ b x) xs → list_any a xs ≡ list_any b xs
any_same a b [] all = refl
any_same a b (x ∷ xs) all = λ i. all.0 i || any_same a b xs all.1 i

module _ (f : Finders) (config : Config) (column : ℕ) where
  -- A source with this number of types that can be added up, and has no negative value.
  pub record IsSource (n : ℕ) (q : Profile) : Type 0 where
    pub types : length q.sample_type ≡ n
    pub values : HasValues n q
    pub within : column < n
    pub none : HasNoNegative column q

  source_above : (n : ℕ) (q : Profile) → IsSource n q → NoneNegative (seen_samples (merged q []) f config (Some column) (merged q []).sample)
  source_above n q is =
      values_within (merged q []) f config column
      (merged_above q [] (subst (λ m. HasValues m q) (sym is.types) is.values, tt) column (subst (λ m. column < m) (sym is.types) is.within) (is.none, tt))

  module _ (p : Profile) (ps : List Profile) (can : AddUp p ps config column) (none : AllByRecursion (HasNoNegative column) (p ∷ ps)) where
    each_source : AllByRecursion (IsSource (length p.sample_type)) (p ∷ ps)
    each_source =
        all_by _ (IsSource (length p.sample_type)) (λ q of. record { types = of.0; values = of.1.0; within = can.within; none = of.1.1 }) (p ∷ ps)
        (all_both _ _ (p ∷ ps) can.types (all_both _ _ (p ∷ ps) can.values none))

    all_above : HasNoNegative column (merged p ps)
    all_above = merged_above p ps can.values column can.within none

    abbrev figure_of : (List Written → Bool) → Profile → ℤ
    figure_of test q = sum_where test (report_samples (merged q []) f config (Some column))

    -- A test is passed by a sample of the merge where it is by one of a source.
    finds : (test : List Written → Bool)
        → list_any (λ s. test s.keys) (report_samples (merged p ps) f config (Some column))
        ≡ list_any (λ q. list_any (λ s. test s.keys) (report_samples (merged q []) f config (Some column))) (p ∷ ps)
    finds test =
        found_is_sum test (seen_samples (merged p ps) f config (Some column) (merged p ps).sample) (values_within (merged p ps) f config column all_above)
        ∙ ap isnt_zero (shards_add_up f config column can.divisor p ps can test)
        ∙ sym (some_is_sum (figure_of test) (p ∷ ps)
        (all_by (IsSource (length p.sample_type)) (λ q. pos 0 ≤ℤ figure_of test q)
        (λ q is. sum_where_above test (report_samples (merged q []) f config (Some column)) (none_weighed (seen_samples (merged q []) f config (Some column) (merged q []).sample) (source_above (length p.sample_type) q is)))
        (p ∷ ps) each_source))
        ∙ any_same (λ q. isnt_zero (figure_of test q)) (λ q. list_any (λ s. test s.keys) (report_samples (merged q []) f config (Some column))) (p ∷ ps)
        (all_by (IsSource (length p.sample_type)) _
        (λ q is. sym (found_is_sum test (seen_samples (merged q []) f config (Some column) (merged q []).sample) (source_above (length p.sample_type) q is)))
        (p ∷ ps) each_source)

    pub keys_stay : HasKeysOfSources p ps f config column
    keys_stay = record {
      occur = λ k. finds (has key_cmp k);
      edge_occurs = λ kept a b. finds (has_edge key_cmp kept a b);
    }

  -- Each source says in the merge of all what it says alone.
  module _ (p : Profile) (ps : List Profile) (q : Profile) (keeps : KeepsMappings config.grouping.grain (p ∷ ps) q) where
    abbrev among : MappingText → MappingText
    among = first_alike (all_mappings (p ∷ ps))

    abbrev alone : MappingText → MappingText
    alone = first_alike (all_mappings (q ∷ []))

    same_starts : (id : ℕ) → config.grouping.grain ≡ Addresses → start_of (option_map among (mapping_found q id)) ≡ start_of (option_map alone (mapping_found q id))
    same_starts id told = by (mapping_with q id) refl
      where
        by : (o : Option Mapping) → mapping_with q id ≡ o → start_of (option_map among (option_map (mapping_text q) o)) ≡ start_of (option_map alone (option_map (mapping_text q) o))
        by None is = refl
        by (Some m) is = (found_holds _ (λ (x : Mapping). x.id == id) q.mapping keeps m is).0.start told

    same_files : (id : ℕ) → file_of (option_map among (mapping_found q id)) ≡ file_of (option_map alone (mapping_found q id))
    same_files id = by (mapping_with q id) refl
      where
        by : (o : Option Mapping) → mapping_with q id ≡ o → file_of (option_map among (option_map (mapping_text q) o)) ≡ file_of (option_map alone (option_map (mapping_text q) o))
        by None is = refl
        by (Some m) is = (found_holds _ (λ (x : Mapping). x.id == id) q.mapping keeps m is).0.file

    module _ (divisor : config.presentation.divide_by ≡ 1) where
      says_same : (s : Sample) → says f config column divisor (λ _. true) (told_in p ps q s) ≡ says f config column divisor (λ _. true) (told_in q [] q s)
      says_same s = ap (λ xs. tags_told f config (map (label_text (text_of q)) s.label) && passes f config (λ _. true) xs) (same_told config.grouping.grain q among alone same_starts same_files 0 s.location_id)

      all_same : asked (counts_in f config column divisor) column p ps q ≡ asked (counts_in f config column divisor) column q [] q
      all_same = total_same adding_ℤ (λ s. cond (counts_in f config column divisor (told_in p ps q s)) (value_in s column) (pos 0)) (λ s. cond (counts_in f config column divisor (told_in q [] q s)) (value_in s column) (pos 0)) q.sample
          (all_any _ (λ s i. cond (cond config.presentation.relative_percentages (says_same s i) true) (value_in s column) (pos 0)) q.sample)

      base_same : asked (counts_in_base f config column divisor) column p ps q ≡ asked (counts_in_base f config column divisor) column q [] q
      base_same = total_same adding_ℤ (λ s. cond (counts_in_base f config column divisor (told_in p ps q s)) (value_in s column) (pos 0)) (λ s. cond (counts_in_base f config column divisor (told_in q [] q s)) (value_in s column) (pos 0)) q.sample
          (all_any _ (λ s i. cond (cond config.presentation.relative_percentages (says_same s i) true && tell_base (map (label_text (text_of q)) s.label)) (value_in s column) (pos 0)) q.sample)

  -- The total of a merge is told from the sources, each alone.
  module _ (p : Profile) (ps : List Profile) (can : AddUp p ps config column) (none : AllByRecursion (HasNoNegative column) (p ∷ ps)) where
    abbrev all : Profile
    all = merged p ps

    plain : IsPlain all
    plain = loaded_plain all (merges_are_loaded p ps can.starts)

    sources_say : (asks : SampleText → Bool) → AllByRecursion (λ q. asked asks column p ps q ≡ asked asks column q [] q) (p ∷ ps)
        → asked asks column all [] all ≡ sum_over (λ q. asked asks column q [] q) (p ∷ ps)
    sources_say asks each =
        asked_of_sources asks column p ps (settled_contents p ps (starts_said (p ∷ ps) can.starts)) (values_of all plain.valid) can.values can.within
        (subst (λ n. column < n) (sym (types_of p ps)) can.within)
        ∙ sym (sum_total (asked asks column p ps) (p ∷ ps))
        ∙ sum_each (asked asks column p ps) (λ q. asked asks column q [] q) (p ∷ ps) each

    pub total_of_sources : total_of all f config (Some column)
        ≡ total_by (nat_abs (sum_over (λ q. asked (counts_in_base f config column can.divisor) column q [] q) (p ∷ ps)))
        (nat_abs (sum_over (λ q. asked (counts_in f config column can.divisor) column q [] q) (p ∷ ps)))
    total_of_sources =
        total_said f config column can.divisor all plain (merged_above p ps can.values column can.within none)
        ∙ (λ i. total_by
        (nat_abs (sources_say (counts_in_base f config column can.divisor) (all_by (KeepsMappings config.grouping.grain (p ∷ ps)) _ (λ q keeps. base_same p ps q keeps can.divisor) (p ∷ ps) can.mappings) i))
        (nat_abs (sources_say (counts_in f config column can.divisor) (all_by (KeepsMappings config.grouping.grain (p ∷ ps)) _ (λ q keeps. all_same p ps q keeps can.divisor) (p ∷ ps) can.mappings) i)))

  module _ (p q : Profile) (ps qs : List Profile) (moved : IsPermutation (p ∷ ps) (q ∷ qs)) (first : AddUp p ps config column) (second : AddUp q qs config column) where
    same_sums : (test : List Written → Bool) → sum_where test (report_samples (merged p ps) f config (Some column)) ≡ sum_where test (report_samples (merged q qs) f config (Some column))
    same_sums test =
        shards_add_up f config column first.divisor p ps first test
        ∙ sym (sum_permuted (λ r. sum_where test (report_samples (merged r []) f config (Some column))) (p ∷ ps) (q ∷ qs) moved)
        ∙ sym (shards_add_up f config column second.divisor q qs second test)

    none_moved : AllByRecursion (HasNoNegative column) (p ∷ ps) → AllByRecursion (HasNoNegative column) (q ∷ qs)
    none_moved none =
        recursion_from_All (HasNoNegative column) (q ∷ qs)
        (All-permutation (HasNoNegative column) (p ∷ ps) (q ∷ qs) moved (All-from_recursion (HasNoNegative column) (p ∷ ps) none))

    same_total : AllByRecursion (HasNoNegative column) (p ∷ ps) → total_of (merged p ps) f config (Some column) ≡ total_of (merged q qs) f config (Some column)
    same_total none =
        total_of_sources p ps first none
        ∙ (λ i. total_by
        (nat_abs (sym (sum_permuted (λ r. asked (counts_in_base f config column first.divisor) column r [] r) (p ∷ ps) (q ∷ qs) moved) i))
        (nat_abs (sym (sum_permuted (λ r. asked (counts_in f config column first.divisor) column r [] r) (p ∷ ps) (q ∷ qs) moved) i)))
        ∙ sym (total_of_sources q qs second (none_moved none))

pub no_key_vanishes : NoKeyVanishes
no_key_vanishes p ps f config column can none = keys_stay f config column p ps can none

pub source_order_keeps_sums : SourceOrderKeepsSums
source_order_keeps_sums p q ps qs f config column moved can =
    sums_alike (merged p ps) (merged q qs) f config (Some column) (same_sums f config column p q ps qs moved can (add_up_moved p q ps qs config column moved can))

pub source_order_keeps_rows : SourceOrderKeepsRows
source_order_keeps_rows p q ps qs f config column moved can none =
    let second : AddUp q qs config column = add_up_moved p q ps qs config column moved can in
    rows_alike (merged p ps) (merged q qs) f config (Some column) (same_sums f config column p q ps qs moved can second)
    (values_within (merged p ps) f config column (all_above f config column p ps can none))
    (values_within (merged q qs) f config column (all_above f config column q qs second (none_moved f config column p q ps qs moved can second none)))
    (same_total f config column p q ps qs moved can second none)
