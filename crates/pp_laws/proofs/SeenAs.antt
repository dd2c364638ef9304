-- What a report sees of the samples of a written profile, told from what they say.
use Rattle.std.proofs.Common.{◌≡◌, ℕ, ◌<◌, ◌^◌, Bool, true, false, cond, ℤ, pos, List, [], ◌∷◌, map, get_or, Option, Some, None, option_map, refl, sym, ap, subst, ◌∙◌}
use Rattle.std.specs.Prelude.{int_div}
use Rattle.std.specs.List.{AllByRecursion, list_all}
use Rattle.std.specs.Option.{option_map_or}
use Rattle.std.specs.Str.{bytes_eq}
use Rattle.std.proofs.lemmas.List.Elements.{recursion_from_All}
use Rattle.pp_base.proofs.Lists.{all_by}
use Rattle.pp_model.specs.declared.config.Config.{Config}
use Rattle.pp_model.specs.declared.grouping.Grain.{Grain}
use Rattle.pp_model.specs.declared.grouping.Grain.TheVariants.{Functions, FileFunctions, Files, Lines, Addresses}
use Rattle.pp_model.specs.declared.frame.Frame.{Frame}
use Rattle.pp_model.specs.declared.profile.Profile.{Profile}
use Rattle.pp_model.specs.declared.profile.Sample.{Sample}
use Rattle.pp_model.specs.Conditions.{RefersTo}
use Rattle.pp_model.specs.Finders.{Finders}
use Rattle.pp_model.specs.Frames.{stack_of}
use Rattle.pp_model.specs.FrameTexts.{Written, written}
use Rattle.pp_model.specs.Lookup.{text_at, text_of}
use Rattle.pp_model.specs.Rules.{label_has_texts, NoRuleFails, IsCompact}
use Rattle.pp_model.proofs.RuleLemmas.{passes as rule_passes}
use Rattle.pp_stack.specs.Filters.{filtered, frames_of_sample}
use Rattle.pp_grain.specs.Keys.{key_texts}
use Rattle.pp_share.specs.Described.{MappingText, SampleText, location_found, sample_text}
use Rattle.pp_share.specs.Alike.{first_alike}
use Rattle.pp_share.specs.Written.{Contents}
use Rattle.pp_share.specs.Written as writing
use Rattle.pp_share.proofs.NumberedLemmas.{all_both}
use Rattle.pp_share.proofs.Once.{head_distinct}
use Rattle.pp_merge.specs.Merge.{all_mappings, merged}
use Rattle.pp_merge.specs.Settled.{IsSettled}
use Rattle.pp_merge.proofs.WrittenAgain.{contents_again, mappings_back}
use Rattle.pp_merge.proofs.WrittenCompact.{compact_written}
use Rattle.pp_merge.proofs.WrittenPlaces.{mappings_stay, addresses_small}
use Rattle.pp_merge.proofs.WrittenValid.{valid_written}
use Rattle.pp_count.specs.Column.{selected}
use Rattle.pp_count.specs.Sums.{Seen}
use Rattle.pp_count.specs.Seeing.{passes_tags, counted_frames, key_of_frame, keys_of_stack, seen_with, seen}
use Rattle.pp_count.proofs.Pieces.{all_refer}
use Rattle.pp_laws.proofs.Stages.{filtered-map}
use Rattle.pp_laws.proofs.Tagging.{tags_told, tags_is, labels_tell, TellsText}
use Rattle.pp_laws.proofs.Telling.{told_from, told_counted, placed, counted_told, frames_told, located_by}

-- a key doesn't tell more of an address than its grain does
pub key_by : (grain : Grain) (showcolumns : Bool) (w : Written) → key_texts grain showcolumns w ≡ key_texts grain showcolumns (located_by grain w)
key_by Functions showcolumns w = refl
key_by FileFunctions showcolumns w = refl
key_by Files showcolumns w = refl
key_by Lines showcolumns w = refl
key_by Addresses showcolumns w = refl

-- the value that a report selects of a row
abbrev pub value_told : Option ℕ → ℕ → List ℤ → ℤ
value_told None divide_by row = pos 0
value_told (Some column) divide_by row = int_div (get_or row column (pos 0)) (pos divide_by)

pub value_same : (column : Option ℕ) (divide_by : ℕ) (s : Sample) → selected column divide_by s ≡ value_told column divide_by s.value
value_same None divide_by s = refl
value_same (Some column) divide_by s = refl

-- Filters over what a sample says.
module _ (f : Finders) (config : Config) where
  abbrev keys_told : List (ℕ × Written) → List Written
  keys_told xs = map (key_texts config.grouping.grain config.grouping.showcolumns) (told_counted config.grouping.noinlines xs)

  -- the keys that a report sees, none where the filters drop the sample
  abbrev pub shows : List (ℕ × Written) → Option (List Written)
  shows xs = option_map keys_told (filtered (λ x. x.1) f xs)

  -- What a report sees of a sample that says this, none where the filters drop it.
  abbrev pub sees : Option ℕ → SampleText × List ℤ → Option (Seen Written)
  sees column item =
      cond (tags_told f config item.0.labels)
      (option_map (λ keys. record { value = value_told column config.presentation.divide_by item.1; keys = keys }) (shows (told_from config.grouping.grain 0 item.0.locations))) None

  -- whether the keys pass a test
  abbrev pub passes : (List Written → Bool) → List (ℕ × Written) → Bool
  passes test xs = option_map_or test (shows xs) false

  module _ (p : Profile) where
    keys_mapped : (stack : List Frame) → map (key_of_frame p config.grouping) stack ≡ map (key_texts config.grouping.grain config.grouping.showcolumns) (map (λ x. located_by config.grouping.grain (written p x)) stack)
    keys_mapped [] = refl
    keys_mapped (x ∷ stack) = λ i. key_by config.grouping.grain config.grouping.showcolumns (written p x) i ∷ keys_mapped stack i

    keys_same : (stack : List Frame) → keys_of_stack p config.grouping stack ≡ keys_told (map (placed config.grouping.grain p) stack)
    keys_same stack = keys_mapped (counted_frames config.grouping.noinlines stack) ∙ ap (map (key_texts config.grouping.grain config.grouping.showcolumns)) (counted_told config.grouping.grain p config.grouping.noinlines stack)

    -- A sample is seen by its tags, its value, and what its stack is told as.
    seen_by : (column : Option ℕ) (s : Sample)
        → seen p f config column s
        ≡ cond (passes_tags p f config.filtering s)
        (option_map (λ keys. record { value = selected column config.presentation.divide_by s; keys = keys }) (shows (map (placed config.grouping.grain p) (stack_of p s)))) None
    seen_by column s =
        let with_keys : List Written → Seen Written = λ keys. record { value = selected column config.presentation.divide_by s; keys = keys } in
        elim (passes_tags p f config.filtering s) as (λ (b : Bool). option_map (seen_with p config column s) (cond b (frames_of_sample p f s) None)
        ≡ cond b (option_map with_keys (shows (map (placed config.grouping.grain p) (stack_of p s)))) None) [
          | false ↦ refl
          | true ↦ elim (frames_of_sample p f s) as (λ (o : Option (List Frame)). option_map (seen_with p config column s) o
              ≡ option_map with_keys (option_map keys_told (option_map (map (placed config.grouping.grain p)) o))) [
                | None ↦ refl
                | Some stack ↦ λ i. Some (with_keys (keys_same stack i))
              ]
              ∙ ap (λ (o : Option (List (ℕ × Written))). option_map with_keys (option_map keys_told o))
              (sym (filtered-map (placed config.grouping.grain p) (λ (x : ℕ × Written). x.1) f (stack_of p s)))
        ]

-- A written profile of settled contents.
module _ (c : Contents) (settled : IsSettled c) where
  abbrev whole : Profile
  whole = writing.written c

  -- what a sample says when the profile is merged alone
  abbrev pub telling : Sample → SampleText × List ℤ
  telling = sample_text (location_found (first_alike (all_mappings (whole ∷ []))) whole) (text_of whole)

  again : merged whole [] ≡ whole
  again = ap writing.written (contents_again c settled)

  starts : AllByRecursion (λ m. m.start < 2 ^ 64) (all_mappings (whole ∷ []))
  starts = subst (AllByRecursion (λ (m : MappingText). m.start < 2 ^ 64)) (sym (mappings_back c settled)) settled.starts

  -- the text of index 0 is empty
  none : text_at whole 0 ≡ []
  none = head_distinct bytes_eq (writing.walked_texts c) []

  valid : NoRuleFails whole
  valid = valid_written c settled.fits

  compact : IsCompact whole
  compact = compact_written c

  -- what holds of each of its samples
  abbrev pub Fine : Sample → Type 0
  Fine s = (RefersTo whole s) × (AllByRecursion (TellsText whole) s.label)

  pub each_fine : AllByRecursion Fine whole.sample
  each_fine = all_both (RefersTo whole) (λ s. AllByRecursion (TellsText whole) s.label) whole.sample
      (recursion_from_All (RefersTo whole) whole.sample (all_refer whole whole refl valid))
      (all_by (λ s. list_all (label_has_texts whole) s.label ≡ true) (λ s. AllByRecursion (TellsText whole) s.label)
      (λ s ok. labels_tell whole valid compact none s.label ok) whole.sample
      (recursion_from_All (λ s. list_all (label_has_texts whole) s.label ≡ true) whole.sample (rule_passes (λ s. list_all (label_has_texts whole) s.label) whole.sample valid.sample_text)))

  -- A report sees of a sample what it says.
  pub seen_as : (f : Finders) (config : Config) (column : Option ℕ) (s : Sample) → Fine s → seen whole f config column s ≡ sees f config column (telling s)
  seen_as f config column s fine =
      seen_by f config whole column s
      ∙ (λ i. cond (tags_is whole s fine.1 f config i)
      (option_map (λ keys. record { value = value_same column config.presentation.divide_by s i; keys = keys })
      (shows f config (frames_told whole (first_alike (all_mappings (whole ∷ []))) (mappings_stay whole starts again) none compact.locations (addresses_small whole again) config.grouping.grain 0 s.location_id fine.0 i)))
      None)
