-- A profile less a base whose samples are labelled.
use Rattle.std.proofs.Common.{◌≡◌, ℕ, ◌<◌, ◌==◌, Bool, true, false, cond, not, ◌&&◌, ℤ, pos, neg_ℤ, ◌-ℤ◌, List, [], ◌∷◌, ◌++◌, length, map, Option, Some, None, option_map, refl, sym, ap, ◌∙◌, subst}
use Rattle.std.specs.List.{AllByRecursion}
use Rattle.std.proofs.Math.ListN.{get_or-append}
use Rattle.std.proofs.lemmas.Bool.{and_parts}
use Rattle.std.proofs.lemmas.List.{length-map}
use Rattle.std.proofs.lemmas.List.Elements.{recursion_from_All}
use Rattle.pp_model.specs.declared.config.Config.{Config}
use Rattle.pp_model.specs.declared.grouping.Grain.{Grain}
use Rattle.pp_model.specs.declared.profile.Function.{Function}
use Rattle.pp_model.specs.declared.profile.Mapping.{Mapping}
use Rattle.pp_model.specs.declared.profile.Profile.{Profile}
use Rattle.pp_model.specs.declared.profile.Sample.{Sample}
use Rattle.pp_model.specs.declared.report.BaseKind.TheVariants.{DiffBase}
use Rattle.pp_model.specs.Finders.{Finders}
use Rattle.pp_model.specs.Lookup.{text_of, text_number, mapping_with, function_with, location_with}
use Rattle.pp_model.specs.FrameTexts.{Written}
use Rattle.pp_model.specs.Rules.{NoRuleFails, is_text, mapping_has_texts, function_has_texts}
use Rattle.pp_model.specs.Sizes.{value_in}
use Rattle.pp_model.proofs.RuleLemmas.{passes as rule_passes, text_below}
use Rattle.std.specs.Option.{option_map_or}
use Rattle.pp_base.proofs.Lists.{all_by}
use Rattle.pp_tags.specs.TagFilters.{filter_in_force}
use Rattle.pp_grain.specs.Keys.{key_cmp}
use Rattle.pp_share.specs.Described.{LabelText, MappingText, SampleText, mapping_text, function_text, mapping_found, function_found, location_text, location_found, nowhere}
use Rattle.pp_share.specs.Alike.{first_alike}
use Rattle.pp_merge.specs.Merge.{all_mappings, merged}
use Rattle.pp_merge.specs.Scale.{negated, negated_sample, labelled_sample, base_label, base_texts}
use Rattle.pp_share.proofs.NumberedLemmas.{all_mapped}
use Rattle.pp_merge.proofs.SettledLemmas.{all_any, found_holds}
use Rattle.pp_merge.proofs.TotalLemmas.{total-map, total_same, adding_ℤ}
use Rattle.pp_count.specs.Sums.{has, leads}
use Rattle.pp_count.specs.EdgeSums.{has_edge}
use Rattle.pp_laws.specs.Merged.{HasValues, IsPlacedAs, KeepsMappings, AddUp}
use Rattle.pp_laws.specs.Bases.{less_base, LabelledBasesSubtract}
use Rattle.pp_laws.proofs.Multiplying.{value_negated, if_negated}
use Rattle.pp_laws.proofs.Grouped.{told_in}
use Rattle.pp_laws.proofs.Tagging.{tags_told, selects_told}
use Rattle.pp_laws.proofs.Telling.{told_from}
use Rattle.pp_laws.proofs.SeenAs.{passes}
use Rattle.pp_laws.proofs.Shards.{says, shards_add_up}
use Rattle.pp_laws.proofs.Subtracting.{said, figure, alone, added_less, total_negated}

-- More texts change nothing of what a valid profile says.
module _ (b : Profile) (valid : NoRuleFails b) where
  abbrev pub labelled : Profile
  labelled = negated DiffBase b

  same_text : (index : ℤ) → is_text b index ≡ true → text_of labelled index ≡ text_of b index
  same_text index ok = get_or-append b.text base_texts [] (text_number index) (text_below (length b.text) index ok)

  same_mapping_text : (m : Mapping) → mapping_has_texts b m ≡ true → mapping_text labelled m ≡ mapping_text b m
  same_mapping_text m ok = let parts = and_parts _ _ ok in λ i. record {
    start = m.start;
    limit = m.limit;
    offset = m.offset;
    file = same_text m.file parts.0 i;
    build_id = same_text m.build_id parts.1 i;
    has_functions = m.has_functions;
    has_filenames = m.has_filenames;
    has_line_numbers = m.has_line_numbers;
    has_inline_frames = m.has_inline_frames;
  }

  all_mapping_texts : AllByRecursion (λ m. mapping_has_texts b m ≡ true) b.mapping
  all_mapping_texts = recursion_from_All (λ m. mapping_has_texts b m ≡ true) b.mapping (rule_passes (mapping_has_texts b) b.mapping valid.mapping_text)

  mapping_texts : (ms : List Mapping) → AllByRecursion (λ m. mapping_has_texts b m ≡ true) ms → map (mapping_text labelled) ms ≡ map (mapping_text b) ms
  mapping_texts [] all = refl
  mapping_texts (m ∷ ms) all = λ i. same_mapping_text m all.0 i ∷ mapping_texts ms all.1 i

  pub same_mappings : map (mapping_text labelled) b.mapping ≡ map (mapping_text b) b.mapping
  same_mappings = mapping_texts b.mapping all_mapping_texts

  same_mapping_found : (id : ℕ) → mapping_found labelled id ≡ mapping_found b id
  same_mapping_found id = by (mapping_with b id) refl
    where
      by : (o : Option Mapping) → mapping_with b id ≡ o → option_map (mapping_text labelled) o ≡ option_map (mapping_text b) o
      by None is = refl
      by (Some m) is = ap Some (same_mapping_text m (found_holds (λ x. mapping_has_texts b x ≡ true) (λ (x : Mapping). x.id == id) b.mapping all_mapping_texts m is).0)

  same_function_text : (x : Function) → function_has_texts b x ≡ true → function_text labelled x ≡ function_text b x
  same_function_text x ok =
      let parts = and_parts _ _ ok in
      let names = and_parts _ _ parts.0 in
      λ i. record { name = same_text x.name names.0 i; system_name = same_text x.system_name names.1 i; file = same_text x.filename parts.1 i; start_line = x.start_line }

  all_function_texts : AllByRecursion (λ x. function_has_texts b x ≡ true) b.function
  all_function_texts = recursion_from_All (λ x. function_has_texts b x ≡ true) b.function (rule_passes (function_has_texts b) b.function valid.function_text)

  same_function_found : (id : ℕ) → function_found labelled id ≡ function_found b id
  same_function_found id = by (function_with b id) refl
    where
      by : (o : Option Function) → function_with b id ≡ o → option_map (function_text labelled) o ≡ option_map (function_text b) o
      by None is = refl
      by (Some x) is = ap Some (same_function_text x (found_holds (λ y. function_has_texts b y ≡ true) (λ (y : Function). y.id == id) b.function all_function_texts x is).0)

  pub same_location_found : (become : MappingText → MappingText) → location_found become labelled ≡ location_found become b
  same_location_found become = λ i id. option_map_or (location_text become (λ f. same_function_found f i) (λ m. same_mapping_found m i)) (location_with b id) nowhere

  -- its mappings beside those of others
  pub same_all : (p : Profile) → all_mappings (p ∷ labelled ∷ []) ≡ all_mappings (p ∷ b ∷ [])
  same_all p = λ i. map (mapping_text p) p.mapping ++ (same_mappings i ++ [])

  pub same_alone : all_mappings (labelled ∷ []) ≡ all_mappings (b ∷ [])
  same_alone = λ i. same_mappings i ++ []

  keeps_each : (grain : Grain) (p : Profile) (ms : List Mapping) → AllByRecursion (λ m. mapping_has_texts b m ≡ true) ms
      → AllByRecursion (λ m. IsPlacedAs grain (first_alike (all_mappings (p ∷ b ∷ [])) (mapping_text b m)) (first_alike (all_mappings (b ∷ [])) (mapping_text b m))) ms
      → AllByRecursion (λ m. IsPlacedAs grain (first_alike (all_mappings (p ∷ labelled ∷ [])) (mapping_text labelled m)) (first_alike (all_mappings (labelled ∷ [])) (mapping_text labelled m))) ms
  keeps_each grain p [] texts keeps = tt
  keeps_each grain p (m ∷ ms) texts keeps = (
    subst (λ (x : MappingText × MappingText). IsPlacedAs grain x.0 x.1)
        (λ i. (first_alike (sym (same_all p) i) (sym (same_mapping_text m texts.0) i), first_alike (sym same_alone i) (sym (same_mapping_text m texts.0) i))) keeps.0,
    keeps_each grain p ms texts.1 keeps.1,
  )

  pub labelled_keeps : (grain : Grain) (p : Profile) → KeepsMappings grain (p ∷ b ∷ []) b → KeepsMappings grain (p ∷ labelled ∷ []) labelled
  labelled_keeps grain p keeps = keeps_each grain p b.mapping all_mapping_texts keeps

module _ (f : Finders) (config : Config) (column : ℕ) (divisor : config.presentation.divide_by ≡ 1) (tagfocus : config.filtering.tagfocus ≡ []) (tagignore : config.filtering.tagignore ≡ []) where
  -- where no tag filter is in force all labels pass
  all_pass : (labels : List LabelText) → tags_told f config labels ≡ true
  all_pass labels = λ i. selects_told true (filter_in_force (tagfocus i)) f.tagfocus labels && not (selects_told false (filter_in_force (tagignore i)) f.tagignore labels)

  module _ (b : Profile) (valid : NoRuleFails b) where
    -- a sample as it is negated and labelled
    abbrev pub marked : Sample → Sample
    marked s = labelled_sample (base_label (length b.text) ∷ []) (negated_sample s)

    same_says : (test : List Written → Bool) (s : Sample)
        → says f config column divisor test (told_in (labelled b valid) [] (labelled b valid) (marked s)) ≡ says f config column divisor test (told_in b [] b s)
    same_says test s =
        ap (λ t. t && passes f config test (told_from config.grouping.grain 0 (told_in (labelled b valid) [] (labelled b valid) (marked s)).locations)) (all_pass (told_in (labelled b valid) [] (labelled b valid) (marked s)).labels)
        ∙ (λ i. passes f config test (told_from config.grouping.grain 0 (map (same_location_found b valid (first_alike (same_alone b valid i)) i) s.location_id)))
        ∙ ap (λ t. t && passes f config test (told_from config.grouping.grain 0 (told_in b [] b s).locations)) (sym (all_pass (told_in b [] b s).labels))

    said_labelled : (test : List Written → Bool) → said f config column divisor test (labelled b valid) ≡ neg_ℤ (said f config column divisor test b)
    said_labelled test =
        let tells : SampleText → Bool = says f config column divisor test in
        let value : Sample → ℤ = λ s. cond (tells (told_in b [] b s)) (value_in s column) (pos 0) in
        let q : Profile = labelled b valid in
        total-map adding_ℤ (λ s. cond (tells (told_in q [] q s)) (value_in s column) (pos 0)) marked b.sample
        ∙ total_same adding_ℤ (λ s. cond (tells (told_in q [] q (marked s))) (value_in (marked s) column) (pos 0)) (λ s. neg_ℤ (value s)) b.sample
        (all_any _ (λ s. ap (λ t. cond t (value_in (marked s) column) (pos 0)) (same_says test s)
        ∙ if_negated (tells (told_in b [] b s)) (value_in s column) (value_in (marked s) column) (value_negated s.value column)) b.sample)
        ∙ total_negated value b.sample

    pub values_labelled : (n : ℕ) → HasValues n b → HasValues n (labelled b valid)
    values_labelled n all = all_mapped (λ s. length s.value ≡ n) marked b.sample (all_by (λ s. length s.value ≡ n) (λ s. length (marked s).value ≡ n) (λ s is. length-map s.value neg_ℤ ∙ is) b.sample all)

    -- it adds up with what the base adds up with
    pub labelled_adds_up : (p : Profile) → AddUp p (b ∷ []) config column → AddUp p (labelled b valid ∷ []) config column
    labelled_adds_up p can = record {
      within = can.within;
      types = can.types;
      values = (can.values.0, (values_labelled (length p.sample_type) can.values.1.0, tt));
      starts = can.starts;
      mappings = (
        subst (λ (all : List MappingText). AllByRecursion (λ m. IsPlacedAs config.grouping.grain (first_alike all (mapping_text p m)) (first_alike (all_mappings (p ∷ [])) (mapping_text p m))) p.mapping) (sym (same_all b valid p)) can.mappings.0,
        (labelled_keeps b valid config.grouping.grain p can.mappings.1.0, tt),
      );
      divisor = divisor;
    }

    -- alone it comes to the negative of the base
    pub labelled_alone : (p : Profile) → AddUp p (b ∷ []) config column → (test : List Written → Bool)
        → figure f config column divisor test (merged (labelled b valid) []) ≡ neg_ℤ (figure f config column divisor test (merged b []))
    labelled_alone p can test =
        let values : HasValues (length b.sample_type) b = subst (λ n. HasValues n b) (sym can.types.1.0) can.values.1.0 in
        let within : column < length b.sample_type = subst (λ n. column < n) (sym can.types.1.0) can.within in
        alone f config column divisor test (labelled b valid) can.starts.1.0 (values_labelled (length b.sample_type) values) within
        ∙ said_labelled test ∙ ap neg_ℤ (sym (alone f config column divisor test b can.starts.1.0 values within))

    pub subtracts : (p : Profile) → AddUp p (b ∷ []) config column → (test : List Written → Bool)
        → figure f config column divisor test (less_base DiffBase p b) ≡ figure f config column divisor test (merged p []) -ℤ figure f config column divisor test (merged b [])
    subtracts p can test =
        shards_add_up f config column divisor p (labelled b valid ∷ []) (labelled_adds_up p can) test
        ∙ added_less f config column divisor (figure f config column divisor test (merged p [])) (figure f config column divisor test (merged b [])) (figure f config column divisor test (merged (labelled b valid) []))
        (labelled_alone p can test)

pub labelled_bases_subtract : LabelledBasesSubtract
labelled_bases_subtract p base f config column can valid tagfocus tagignore =
    let each = subtracts f config column can.divisor tagfocus tagignore base valid p can in
    record {
      flat = λ k. each (leads key_cmp k);
      cum = λ k. each (has key_cmp k);
      edge = λ kept a b. each (has_edge key_cmp kept a b);
    }
