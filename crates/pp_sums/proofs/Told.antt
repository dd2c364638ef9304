-- What a report sees of the samples of a profile that is loaded, or was with a part dropped, told from what they say.
use Rattle.std.proofs.Common.{◌≡◌, ℕ, ◌<◌, ◌^◌, Bool, true, false, cond, ◌&&◌, ℤ, pos, List, [], ◌∷◌, length, map, get_or, Option, Some, None, option_map, refl, sym, ap, ◌∙◌}
use Rattle.std.specs.Prelude.{int_div, is_some}
use Rattle.std.specs.List.{AllByRecursion, list_all}
use Rattle.std.specs.Option.{option_map_or}
use Rattle.std.proofs.Math.IntN.{+ℤ_idr}
use Rattle.std.proofs.lemmas.List.Elements.{recursion_from_All}
use Rattle.pp_base.proofs.Lists.{all_by}
use Rattle.pp_model.specs.declared.config.Config.{Config}
use Rattle.pp_model.specs.declared.frame.Frame.{Frame}
use Rattle.pp_model.specs.declared.profile.Profile.{Profile}
use Rattle.pp_model.specs.declared.profile.Sample.{Sample}
use Rattle.pp_model.specs.Conditions.{RefersTo}
use Rattle.pp_model.specs.Finders.{Finders}
use Rattle.pp_model.specs.Frames.{stack_of}
use Rattle.pp_model.specs.FrameTexts.{Written, written}
use Rattle.pp_model.specs.Lookup.{text_at, text_of}
use Rattle.pp_model.specs.Rules.{label_has_texts, NoRuleFails, IsCompact}
use Rattle.pp_model.specs.Sizes.{value_in}
use Rattle.pp_model.proofs.FirstText.{text_zero}
use Rattle.pp_model.proofs.RuleLemmas.{passes as rule_passes}
use Rattle.pp_stack.specs.Filters.{frames_of_sample}
use Rattle.pp_grain.specs.Keys.{key_texts}
use Rattle.pp_share.specs.Described.{SampleText, location_found, mapping_found, sample_text}
use Rattle.pp_share.specs.Alike.{first_alike}
use Rattle.pp_share.proofs.NumberedLemmas.{all_both}
use Rattle.pp_merge.specs.Merge.{all_mappings, merged}
use Rattle.pp_count.specs.Column.{selected}
use Rattle.pp_count.specs.Sums.{Seen, sum_where}
use Rattle.pp_count.specs.Seeing.{passes_tags, counted_frames, key_of_frame, keys_of_stack, seen_with, seen}
use Rattle.pp_count.specs.Counted.{report_samples}
use Rattle.pp_count.proofs.Pieces.{all_refer}
use Rattle.pp_laws.specs.Merged.{HasValues}
use Rattle.pp_laws.proofs.Grouped.{told_in}
use Rattle.pp_laws.proofs.IntSums.{sum_each}
use Rattle.pp_laws.proofs.Multiplying.{by_one}
use Rattle.pp_laws.proofs.Sampling.{part, sum_seen}
use Rattle.pp_laws.proofs.SeenAs.{key_by, passes, sees, shows, value_same, value_told}
use Rattle.pp_laws.proofs.Shards.{says, sum_total, sum_of_sources, figure_said}
use Rattle.pp_laws.proofs.Stages.{filtered-map}
use Rattle.pp_laws.proofs.Tagging.{tags_told, tags_is, labels_tell, TellsText}
use Rattle.pp_laws.proofs.Telling.{told_from, told_counted, placed, counted_told, frames_told, located_by}

-- A profile that says of itself what it has. No rule fails, no thing stands twice, and no number is past 64 bits. Each
-- mapping is the first that is one with it.
pub record IsPlain (q : Profile) : Type 0 where
  pub valid : NoRuleFails q
  pub compact : IsCompact q
  pub starts : AllByRecursion (λ m. m.start < 2 ^ 64) (all_mappings (q ∷ []))
  pub stay : (id : ℕ) → option_map (first_alike (all_mappings (q ∷ []))) (mapping_found q id) ≡ mapping_found q id
  pub small : AllByRecursion (λ l. l.address < 2 ^ 64) q.location

module _ (q : Profile) (f : Finders) (config : Config) where
  keys_mapped : (stack : List Frame) → map (key_of_frame q config.grouping) stack ≡ map (key_texts config.grouping.grain config.grouping.showcolumns) (map (λ x. located_by config.grouping.grain (written q x)) stack)
  keys_mapped [] = refl
  keys_mapped (x ∷ stack) = λ i. key_by config.grouping.grain config.grouping.showcolumns (written q x) i ∷ keys_mapped stack i

  keys_same : (stack : List Frame) → keys_of_stack q config.grouping stack ≡ map (key_texts config.grouping.grain config.grouping.showcolumns) (told_counted config.grouping.noinlines (map (placed config.grouping.grain q) stack))
  keys_same stack = keys_mapped (counted_frames config.grouping.noinlines stack) ∙ ap (map (key_texts config.grouping.grain config.grouping.showcolumns)) (counted_told config.grouping.grain q config.grouping.noinlines stack)

  -- A sample is seen by its tags, its value, and what its stack is told as.
  seen_by : (column : Option ℕ) (s : Sample)
      → seen q f config column s
      ≡ cond (passes_tags q f config.filtering s)
      (option_map (λ keys. record { value = selected column config.presentation.divide_by s; keys = keys }) (shows f config (map (placed config.grouping.grain q) (stack_of q s)))) None
  seen_by column s =
      let with_keys : List Written → Seen Written = λ keys. record { value = selected column config.presentation.divide_by s; keys = keys } in
      let told : List (ℕ × Written) → List Written = λ xs. map (key_texts config.grouping.grain config.grouping.showcolumns) (told_counted config.grouping.noinlines xs) in
      elim (passes_tags q f config.filtering s) as (λ (b : Bool). option_map (seen_with q config column s) (cond b (frames_of_sample q f s) None)
      ≡ cond b (option_map with_keys (shows f config (map (placed config.grouping.grain q) (stack_of q s)))) None) [
        | false ↦ refl
        | true ↦ elim (frames_of_sample q f s) as (λ (o : Option (List Frame)). option_map (seen_with q config column s) o
            ≡ option_map with_keys (option_map told (option_map (map (placed config.grouping.grain q)) o))) [
              | None ↦ refl
              | Some stack ↦ λ i. Some (with_keys (keys_same stack i))
            ]
            ∙ ap (λ (o : Option (List (ℕ × Written))). option_map with_keys (option_map told o))
            (sym (filtered-map (placed config.grouping.grain q) (λ (x : ℕ × Written). x.1) f (stack_of q s)))
      ]

module _ (q : Profile) (plain : IsPlain q) where
  -- what a sample says when the profile is merged alone
  abbrev pub saying : Sample → SampleText × List ℤ
  saying = sample_text (location_found (first_alike (all_mappings (q ∷ []))) q) (text_of q)

  none : text_at q 0 ≡ []
  none = text_zero q plain.valid

  -- what holds of each sample
  abbrev pub Fits : Sample → Type 0
  Fits s = (RefersTo q s) × (AllByRecursion (TellsText q) s.label)

  pub each_fits : AllByRecursion Fits q.sample
  each_fits = all_both (RefersTo q) (λ s. AllByRecursion (TellsText q) s.label) q.sample
      (recursion_from_All (RefersTo q) q.sample (all_refer q q refl plain.valid))
      (all_by (λ s. list_all (label_has_texts q) s.label ≡ true) (λ s. AllByRecursion (TellsText q) s.label)
      (λ s ok. labels_tell q plain.valid plain.compact none s.label ok) q.sample
      (recursion_from_All (λ s. list_all (label_has_texts q) s.label ≡ true) q.sample (rule_passes (λ s. list_all (label_has_texts q) s.label) q.sample plain.valid.sample_text)))

  -- A report sees of a sample what it says.
  pub seen_said : (f : Finders) (config : Config) (column : Option ℕ) (s : Sample) → Fits s → seen q f config column s ≡ sees f config column (saying s)
  seen_said f config column s fits =
      seen_by q f config column s
      ∙ (λ i. cond (tags_is q s fits.1 f config i)
      (option_map (λ keys. record { value = value_same column config.presentation.divide_by s i; keys = keys })
      (shows f config (frames_told q (first_alike (all_mappings (q ∷ []))) plain.stay none plain.compact.locations plain.small config.grouping.grain 0 s.location_id fits.0 i)))
      None)

module _ (f : Finders) (config : Config) (column : ℕ) (divisor : config.presentation.divide_by ≡ 1) where
  -- what a sample adds to a sum, by what it says
  part_told : (test : List Written → Bool) (item : SampleText × List ℤ)
      → option_map_or (part test) (sees f config (Some column) item) (pos 0) ≡ cond (says f config column divisor test item.0) (get_or item.1 column (pos 0)) (pos 0)
  part_told test item =
      let value : ℤ = get_or item.1 column (pos 0) in
      let with_keys : List Written → Seen Written = λ keys. record { value = value_told (Some column) config.presentation.divide_by item.1; keys = keys } in
      elim (tags_told f config item.0.labels) as (λ (b : Bool). option_map_or (part test) (cond b (option_map with_keys (shows f config (told_from config.grouping.grain 0 item.0.locations))) None) (pos 0)
      ≡ cond (b && passes f config test (told_from config.grouping.grain 0 item.0.locations)) value (pos 0)) [
        | false ↦ refl
        | true ↦ elim (shows f config (told_from config.grouping.grain 0 item.0.locations)) as (λ (o : Option (List Written)). option_map_or (part test) (option_map with_keys o) (pos 0)
            ≡ cond (option_map_or test o false) value (pos 0)) [
              | None ↦ refl
              | Some keys ↦ λ i. cond (test keys) ((ap (λ d. int_div value (pos d)) divisor ∙ by_one value) i) (pos 0)
            ]
      ]

  -- a sample is kept where it says so
  pub kept_told : (item : SampleText × List ℤ) → is_some (sees f config (Some column) item) ≡ says f config column divisor (λ _. true) item.0
  kept_told item =
      let with_keys : List Written → Seen Written = λ keys. record { value = value_told (Some column) config.presentation.divide_by item.1; keys = keys } in
      elim (tags_told f config item.0.labels) as (λ (b : Bool). is_some (cond b (option_map with_keys (shows f config (told_from config.grouping.grain 0 item.0.locations))) None)
      ≡ (b && passes f config (λ _. true) (told_from config.grouping.grain 0 item.0.locations))) [
        | false ↦ refl
        | true ↦ elim (shows f config (told_from config.grouping.grain 0 item.0.locations)) as (λ (o : Option (List Written)). is_some (option_map with_keys o) ≡ option_map_or (λ _. true) o false) [
          | None ↦ refl
          | Some keys ↦ refl
        ]
      ]

  module _ (q : Profile) (plain : IsPlain q) where
    -- A figure of the profile as it is, by what its samples say.
    pub own_figure : (test : List Written → Bool) → sum_where test (report_samples q f config (Some column)) ≡ sum_of_sources f config column divisor test q [] q
    own_figure test =
        let says_so : Sample → ℤ = λ s. cond (says f config column divisor test (told_in q [] q s)) (value_in s column) (pos 0) in
        sum_seen test (seen q f config (Some column)) q.sample
        ∙ sum_each (λ s. option_map_or (part test) (seen q f config (Some column) s) (pos 0)) says_so q.sample
        (all_by (Fits q plain) _
        (λ s fits. ap (λ (o : Option (Seen Written)). option_map_or (part test) o (pos 0)) (seen_said q plain f config (Some column) s fits) ∙ part_told test (saying q plain s))
        q.sample (each_fits q plain))
        ∙ sum_total says_so q.sample

    -- Loading, which merges the profile alone, keeps it.
    pub loading_keeps : HasValues (length q.sample_type) q → column < length q.sample_type → (test : List Written → Bool)
        → sum_where test (report_samples (merged q []) f config (Some column)) ≡ sum_where test (report_samples q f config (Some column))
    loading_keeps values within test =
        figure_said f config column divisor q [] plain.starts (values, tt) within test
        ∙ +ℤ_idr (sum_of_sources f config column divisor test q [] q)
        ∙ sym (own_figure test)
