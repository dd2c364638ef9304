-- Merged reports are sums.
use Rattle.std.proofs.Common.{◌≡◌, ℕ, ◌<◌, ◌^◌, Bool, true, false, cond, ◌&&◌, ℤ, pos, ◌+ℤ◌, List, [], ◌∷◌, length, map, get_or, ◌==◌, Option, Some, None, option_map, refl, sym, ap, ◌∙◌, subst}
use Rattle.std.specs.Prelude.{int_div}
use Rattle.std.specs.List.{AllByRecursion, filter}
use Rattle.std.specs.Option.{option_map_or}
use Rattle.std.proofs.Math.IntN.{+ℤ_idr}
use Rattle.std.proofs.lemmas.List.{length-map}
use Rattle.pp_base.proofs.Lists.{all_by}
use Rattle.pp_model.specs.declared.config.Config.{Config}
use Rattle.pp_model.specs.declared.grouping.Grain.TheVariants.{Addresses}
use Rattle.pp_model.specs.declared.profile.Mapping.{Mapping}
use Rattle.pp_model.specs.declared.profile.Profile.{Profile}
use Rattle.pp_model.specs.declared.profile.Sample.{Sample}
use Rattle.pp_model.specs.Finders.{Finders}
use Rattle.pp_model.specs.Lookup.{text_of, mapping_with}
use Rattle.pp_model.specs.FrameTexts.{Written}
use Rattle.pp_model.specs.Sizes.{value_in}
use Rattle.pp_grain.specs.Keys.{key_cmp}
use Rattle.pp_share.specs.Described.{LabelText, MappingText, SampleText, label_text, mapping_text, mapping_found, start_of}
use Rattle.pp_share.specs.Alike.{first_alike}
use Rattle.pp_merge.specs.Merge.{all_mappings, contents, merged}
use Rattle.pp_merge.specs.Settled.{IsSettled}
use Rattle.pp_share.specs.Written.{Contents, written_sample, written_type}
use Rattle.pp_share.proofs.NumberedLemmas.{all_both, all_mapped}
use Rattle.pp_merge.proofs.SettledLemmas.{all_any, all_flat, found_holds, settled_contents}
use Rattle.pp_merge.proofs.TotalLemmas.{total, total_same, adding_ℤ}
use Rattle.pp_merge.proofs.WrittenAgain.{contents_again}
use Rattle.pp_count.specs.Sums.{Seen, sum_where, has, leads, weighed}
use Rattle.pp_count.specs.EdgeSums.{has_edge}
use Rattle.pp_count.specs.Seeing.{seen, seen_samples}
use Rattle.pp_count.specs.Counted.{report_samples}
use Rattle.pp_laws.specs.Merged.{HasValues, KeepsMappings, AddUp, over_sources, MergedAreSums}
use Rattle.pp_laws.proofs.IntSums.{sum_over, sum_each}
use Rattle.pp_laws.proofs.Sampling.{part, sum_seen}
use Rattle.pp_laws.proofs.Multiplying.{by_one}
use Rattle.pp_laws.proofs.Grouped.{grouped, told_in, total_passing}
use Rattle.pp_laws.proofs.SeenAs.{value_told, sees, shows, passes, telling, Fine, each_fine, seen_as}
use Rattle.pp_laws.proofs.Tagging.{tags_told}
use Rattle.pp_laws.proofs.Telling.{told_from, file_of, same_told}

pub sum_total : {X : Type 0} (f : X → ℤ) (xs : List X) → sum_over f xs ≡ total adding_ℤ f xs
sum_total f [] = refl
sum_total f (x ∷ xs) = ap (λ v. f x +ℤ v) (sum_total f xs)

both_hold : (a b : Bool) (v : ℤ) → cond a (cond b v (pos 0)) (pos 0) ≡ cond (a && b) v (pos 0)
both_hold true b v = refl
both_hold false b v = refl

module _ (f : Finders) (config : Config) (column : ℕ) (divisor : config.presentation.divide_by ≡ 1) where
  -- the test of what a sample says
  abbrev pub says : (List Written → Bool) → SampleText → Bool
  says test t = tags_told f config t.labels && passes f config test (told_from config.grouping.grain 0 t.locations)

  -- what a sample adds to a sum, by what it says
  part_told : (test : List Written → Bool) (item : SampleText × List ℤ)
      → option_map_or (part test) (sees f config (Some column) item) (pos 0) ≡ cond (says test item.0) (get_or item.1 column (pos 0)) (pos 0)
  part_told test item =
      let value : ℤ = get_or item.1 column (pos 0) in
      let with_keys : List Written → Seen Written = λ keys. record { value = value_told (Some column) config.presentation.divide_by item.1; keys = keys } in
      elim (tags_told f config item.0.labels) as (λ (b : Bool). option_map_or (part test) (cond b (option_map with_keys (shows f config (told_from config.grouping.grain 0 item.0.locations))) None) (pos 0)
      ≡ cond (b && passes f config test (told_from config.grouping.grain 0 item.0.locations)) value (pos 0)) [
        | false ↦ refl
        | true ↦ elim (shows f config (told_from config.grouping.grain 0 item.0.locations)) as (λ (o : Option (List Written)). option_map_or (part test) (option_map with_keys o) (pos 0)
            ≡ cond (option_map_or test o false) value (pos 0)) [
              | None ↦ refl
              | Some keys ↦ λ i. cond (test keys) ((ap (λ d. int_div value (pos d)) divisor ∙ by_one value) i) (pos 0)
            ]
      ]

  -- a sum over what sources say
  abbrev pub sum_of_sources : (List Written → Bool) → Profile → List Profile → Profile → ℤ
  sum_of_sources test p ps q = total adding_ℤ (λ s. cond (says test (told_in p ps q s)) (value_in s column) (pos 0)) q.sample

  module _ (p : Profile) (ps : List Profile) (starts : AllByRecursion (λ m. m.start < 2 ^ 64) (all_mappings (p ∷ ps)))
      (values : AllByRecursion (HasValues (length p.sample_type)) (p ∷ ps)) (within : column < length p.sample_type) where
    abbrev all : Profile
    all = merged p ps

    settled : IsSettled (contents p ps)
    settled = settled_contents p ps starts

    types_is : length all.sample_type ≡ length p.sample_type
    types_is = length-map (contents p ps).header.types (written_type (contents p ps)) ∙ length-map p.sample_type _

    wide : HasValues (length all.sample_type) all
    wide = all_mapped (λ s. length s.value ≡ length all.sample_type) (written_sample (contents p ps)) (contents p ps).samples
        (all_by (λ s. length s.1 ≡ length (contents p ps).header.types) (λ s. length s.1 ≡ length all.sample_type)
        (λ s is. is ∙ sym (length-map (contents p ps).header.types (written_type (contents p ps)))) (contents p ps).samples settled.fits.rows)

    each_says : (test : List Written → Bool) (s : Sample) → Fine (contents p ps) settled s
        → option_map_or (part test) (seen all f config (Some column) s) (pos 0) ≡ cond (says test (told_in all [] all s)) (value_in s column) (pos 0)
    each_says test s fine =
        ap (λ (o : Option (Seen Written)). option_map_or (part test) o (pos 0)) (seen_as (contents p ps) settled f config (Some column) s fine)
        ∙ part_told test (telling (contents p ps) settled s)

    -- what its samples say, asked of the sources
    said_by_sources : (asks : SampleText → Bool)
        → sum_over (λ s. cond (asks (told_in all [] all s)) (value_in s column) (pos 0)) all.sample
        ≡ total adding_ℤ (λ q. total adding_ℤ (λ s. cond (asks (told_in p ps q s)) (value_in s column) (pos 0)) q.sample) (p ∷ ps)
    said_by_sources asks =
        let value : Sample → ℤ = λ s. cond (asks (told_in all [] all s)) (value_in s column) (pos 0) in
        sum_total value all.sample
        ∙ sym (+ℤ_idr (total adding_ℤ value all.sample))
        ∙ sym (grouped all [] (wide, tt) asks column (subst (λ n. column < n) (sym types_is) within))
        ∙ ap (λ (c : Contents). total adding_ℤ (λ (item : SampleText × List ℤ). cond (asks item.0) (get_or item.1 column (pos 0)) (pos 0)) c.samples) (contents_again (contents p ps) settled)
        ∙ grouped p ps values asks column within

    -- A figure of the merged profile, by what its sources say.
    pub figure_said : (test : List Written → Bool) → sum_where test (report_samples all f config (Some column)) ≡ total adding_ℤ (sum_of_sources test p ps) (p ∷ ps)
    figure_said test =
        sum_seen test (seen all f config (Some column)) all.sample
        ∙ sum_each (λ s. option_map_or (part test) (seen all f config (Some column) s) (pos 0)) (λ s. cond (says test (told_in all [] all s)) (value_in s column) (pos 0)) all.sample
        (all_by (Fine (contents p ps) settled) _ (each_says test) all.sample (each_fine (contents p ps) settled))
        ∙ said_by_sources (says test)

    -- A figure of those of its samples whose labels say something.
    pub labelled_figure_said : (who : List LabelText → Bool) (test : List Written → Bool)
        → sum_where test (weighed (seen_samples all f config (Some column) (filter (λ s. who (map (label_text (text_of all)) s.label)) all.sample)))
        ≡ total adding_ℤ (λ q. total adding_ℤ (λ s. cond (who (told_in p ps q s).labels && says test (told_in p ps q s)) (value_in s column) (pos 0)) q.sample) (p ∷ ps)
    labelled_figure_said who test =
        let is_one : Sample → Bool = λ s. who (map (label_text (text_of all)) s.label) in
        let adds : Sample → ℤ = λ s. option_map_or (part test) (seen all f config (Some column) s) (pos 0) in
        sum_seen test (seen all f config (Some column)) (filter is_one all.sample)
        ∙ sum_total adds (filter is_one all.sample)
        ∙ total_passing adds is_one all.sample
        ∙ sym (sum_total (λ s. cond (is_one s) (adds s) (pos 0)) all.sample)
        ∙ sum_each (λ s. cond (is_one s) (adds s) (pos 0)) (λ s. cond (is_one s && says test (told_in all [] all s)) (value_in s column) (pos 0)) all.sample
        (all_by (Fine (contents p ps) settled) _ (λ s fine. ap (λ v. cond (is_one s) v (pos 0)) (each_says test s fine) ∙ both_hold (is_one s) (says test (told_in all [] all s)) (value_in s column)) all.sample (each_fine (contents p ps) settled))
        ∙ said_by_sources (λ t. who t.labels && says test t)

  -- Each source says in the merge of all what it says alone.
  module _ (p : Profile) (ps : List Profile) (q : Profile) (keeps : KeepsMappings config.grouping.grain (p ∷ ps) q) where
    abbrev among : MappingText → MappingText
    among = first_alike (all_mappings (p ∷ ps))

    abbrev alone : MappingText → MappingText
    alone = first_alike (all_mappings (q ∷ []))

    same_starts : (id : ℕ) → config.grouping.grain ≡ Addresses → start_of (option_map among (mapping_found q id)) ≡ start_of (option_map alone (mapping_found q id))
    same_starts id told = by (mapping_with q id) refl
      where
        by : (o : Option Mapping) → mapping_with q id ≡ o → start_of (option_map among (option_map (mapping_text q) o)) ≡ start_of (option_map alone (option_map (mapping_text q) o))
        by None is = refl
        by (Some m) is = (found_holds _ (λ (x : Mapping). x.id == id) q.mapping keeps m is).0.start told

    same_files : (id : ℕ) → file_of (option_map among (mapping_found q id)) ≡ file_of (option_map alone (mapping_found q id))
    same_files id = by (mapping_with q id) refl
      where
        by : (o : Option Mapping) → mapping_with q id ≡ o → file_of (option_map among (option_map (mapping_text q) o)) ≡ file_of (option_map alone (option_map (mapping_text q) o))
        by None is = refl
        by (Some m) is = (found_holds _ (λ (x : Mapping). x.id == id) q.mapping keeps m is).0.file

    same_said : (test : List Written → Bool) (s : Sample) → cond (says test (told_in p ps q s)) (value_in s column) (pos 0) ≡ cond (says test (told_in q [] q s)) (value_in s column) (pos 0)
    same_said test s = ap (λ xs. cond (tags_told f config (map (label_text (text_of q)) s.label) && passes f config test xs) (value_in s column) (pos 0)) (same_told config.grouping.grain q among alone same_starts same_files 0 s.location_id)

    pub source_said : AllByRecursion (λ m. m.start < 2 ^ 64) q.mapping → length q.sample_type ≡ length p.sample_type → HasValues (length p.sample_type) q → column < length p.sample_type
        → (test : List Written → Bool) → sum_of_sources test p ps q ≡ sum_where test (report_samples (merged q []) f config (Some column))
    source_said starts types values within test =
        let own : AllByRecursion (λ m. m.start < 2 ^ 64) (all_mappings (q ∷ [])) =
        all_flat (λ m. m.start < 2 ^ 64) (λ r. map (mapping_text r) r.mapping) (q ∷ []) (all_mapped (λ m. m.start < 2 ^ 64) (mapping_text q) q.mapping starts, tt) in
        total_same adding_ℤ (λ s. cond (says test (told_in p ps q s)) (value_in s column) (pos 0)) (λ s. cond (says test (told_in q [] q s)) (value_in s column) (pos 0)) q.sample
        (all_any _ (same_said test) q.sample)
        ∙ sym (figure_said q [] own (subst (λ n. HasValues n q) (sym types) values, tt) (subst (λ n. column < n) (sym types) within) test ∙ +ℤ_idr (sum_of_sources test q [] q))

  -- the mappings of sources that add up start where they can be told
  pub starts_of : (p : Profile) (ps : List Profile) → AddUp p ps config column → AllByRecursion (λ m. m.start < 2 ^ 64) (all_mappings (p ∷ ps))
  starts_of p ps can =
      all_flat (λ m. m.start < 2 ^ 64) (λ r. map (mapping_text r) r.mapping) (p ∷ ps)
      (all_by _ _ (λ r own. all_mapped (λ m. m.start < 2 ^ 64) (mapping_text r) r.mapping own) (p ∷ ps) can.starts)

  pub shards_add_up : (p : Profile) (ps : List Profile) → AddUp p ps config column → (test : List Written → Bool)
      → sum_where test (report_samples (merged p ps) f config (Some column)) ≡ over_sources (λ q. sum_where test (report_samples q f config (Some column))) (p ∷ ps)
  shards_add_up p ps can test =
      figure_said p ps (starts_of p ps can) can.values can.within test
      ∙ sym (sum_total (sum_of_sources test p ps) (p ∷ ps))
      ∙ sum_each (sum_of_sources test p ps) (λ q. sum_where test (report_samples (merged q []) f config (Some column))) (p ∷ ps)
      (all_by (λ q. (KeepsMappings config.grouping.grain (p ∷ ps) q) × ((AllByRecursion (λ m. m.start < 2 ^ 64) q.mapping) × ((length q.sample_type ≡ length p.sample_type) × (HasValues (length p.sample_type) q)))) _
      (λ q of. source_said p ps q of.0 of.1.0 of.1.1.0 of.1.1.1 can.within test) (p ∷ ps)
      (all_both _ _ (p ∷ ps) can.mappings (all_both _ _ (p ∷ ps) can.starts (all_both _ _ (p ∷ ps) can.types can.values))))

pub merged_are_sums : MergedAreSums
merged_are_sums p ps f config column can =
    let each = shards_add_up f config column can.divisor p ps can in
    record {
      flat = λ k. each (leads key_cmp k);
      cum = λ k. each (has key_cmp k);
      edge = λ kept a b. each (has_edge key_cmp kept a b);
    }
