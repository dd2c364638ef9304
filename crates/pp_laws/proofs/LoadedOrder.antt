-- The order of a file's samples does not matter once the file is loaded.
use Rattle.std.proofs.Common.{◌≡◌, ℕ, ◌+◌, ◌<◌, ◌^◌, Bool, true, cond, ℤ, nat_abs, List, [], ◌∷◌, length, map, Option, refl, sym, ap, ◌∙◌}
use Rattle.std.specs.Prelude.{is_some}
use Rattle.std.specs.List.{AllByRecursion, filter_map, cons_option, sum_by}
use Rattle.std.specs.List.Sorted.{IsPermutation}
use Rattle.std.proofs.lemmas.List.Sorted.{IsPermutation-append_left, IsPermutation-map}
use Rattle.std.proofs.lemmas.List.Sums.{sum_by-cons}
use Rattle.std.proofs.lemmas.Simd.{map-map}
use Rattle.pp_base.proofs.Lists.{all_by}
use Rattle.pp_model.specs.declared.config.Config.{Config}
use Rattle.pp_model.specs.declared.profile.Profile.{Profile}
use Rattle.pp_model.specs.declared.profile.Sample.{Sample}
use Rattle.pp_model.specs.Finders.{Finders}
use Rattle.pp_model.specs.FrameTexts.{Written}
use Rattle.pp_model.specs.Lookup.{text_of}
use Rattle.pp_share.specs.Described.{MappingText, SampleText, location_found, mapping_text, sample_text}
use Rattle.pp_share.specs.Alike.{same_sample, first_alike}
use Rattle.pp_share.specs.Header.{HeaderText, TypeText, type_text, header_of}
use Rattle.pp_share.specs.Written.{Contents, written}
use Rattle.pp_share.proofs.Deciding.{sample_decides}
use Rattle.pp_share.proofs.EntryLemmas.{nonempty_same}
use Rattle.pp_share.proofs.NumberedLemmas.{all_mapped}
use Rattle.pp_merge.specs.Merge.{all_mappings, all_samples, contents, merged}
use Rattle.pp_merge.specs.Settled.{IsSettled}
use Rattle.pp_merge.proofs.SettledLemmas.{all_flat, settled_contents}
use Rattle.pp_merge.proofs.WrittenAgain.{contents_again, samples_back}
use Rattle.pp_count.specs.Column.{selected, column_of}
use Rattle.pp_count.specs.Counts.{is_base, total_by}
use Rattle.pp_count.specs.Seeing.{seen}
use Rattle.pp_count.specs.Sums.{Seen, weighed}
use Rattle.pp_count.proofs.Columns.{columns_alike}
use Rattle.pp_laws.specs.Order.{with_samples, LoadedOrderIsFree}
use Rattle.pp_laws.proofs.Comparing.{tell_base, base_told}
use Rattle.pp_laws.proofs.Reordering.{IsToldFrom, own_told, same_figures}
use Rattle.pp_laws.proofs.SeenAs.{value_told, value_same, sees, telling, Fine, each_fine, seen_as}
use Rattle.pp_laws.proofs.SumsMoved.{sums_moved}

-- profiles with one header have the same columns
pub same_columns : (p q : Profile) → header_of q [] ≡ header_of p [] → (text : List ℕ) → column_of q text ≡ column_of p text
same_columns p q header =
    columns_alike p q
    (sym (map-map (λ (t : TypeText). t.kind) (type_text q) q.sample_type) ∙ ap (λ (h : HeaderText). map (λ t. t.kind) h.types) header
    ∙ map-map (λ (t : TypeText). t.kind) (type_text p) p.sample_type)
    (sym (nonempty_same (text_of q q.default_sample_type)) ∙ ap (λ (h : HeaderText). h.default_sample_type) header ∙ nonempty_same (text_of p p.default_sample_type))

-- what is taken of items is taken of what they say
module _ {X Y : Type 0} (say : X → Y) where
  filter_map_said : {Z : Type 0} (g : X → Option Z) (h : Y → Option Z) (xs : List X) → AllByRecursion (λ x. g x ≡ h (say x)) xs → filter_map g xs ≡ filter_map h (map say xs)
  filter_map_said g h [] all = refl
  filter_map_said g h (x ∷ xs) all = λ i. cons_option (all.0 i) (filter_map_said g h xs all.1 i)

  sum_by_said : (g : X → ℕ) (h : Y → ℕ) (xs : List X) → AllByRecursion (λ x. g x ≡ h (say x)) xs → sum_by g xs ≡ sum_by h (map say xs)
  sum_by_said g h [] all = refl
  sum_by_said g h (x ∷ xs) all = sum_by-cons g x xs ∙ (λ i. all.0 i + sum_by_said g h xs all.1 i) ∙ sym (sum_by-cons h (say x) (map say xs))

module _ (f : Finders) (config : Config) (column : Option ℕ) where
  abbrev sees_item : SampleText × List ℤ → Option (Seen Written)
  sees_item = sees f config column

  abbrev value_item : SampleText × List ℤ → ℤ
  value_item item = value_told column config.presentation.divide_by item.1

  abbrev is_base_item : SampleText × List ℤ → Bool
  is_base_item item = tell_base item.0.labels

  -- A report of a written profile is told from its contents.
  contents_told : (c : Contents) (settled : IsSettled c) → IsToldFrom sees_item value_item is_base_item c.samples (written c) f config column
  contents_told c settled =
      let p : Profile = written c in
      let say : Sample → SampleText × List ℤ = telling c settled in
      let relative : Bool = config.presentation.relative_percentages in
      let seen_all : Sample → Option (Seen Written) = seen p f config column in
      let value_all : Sample → ℤ = selected column config.presentation.divide_by in
      let back : map say p.sample ≡ c.samples = samples_back c settled in
      let own = own_told p f config column in
      let fine : AllByRecursion (λ s. seen_all s ≡ sees_item (say s)) p.sample = all_by (Fine c settled) _ (seen_as c settled f config column) p.sample (each_fine c settled) in
      let sizes : (size : Sample → ℕ) (told : SampleText × List ℤ → ℕ) → ((s : Sample) → size s ≡ told (say s))
      → sum_by (λ s. cond (cond relative (is_some (seen_all s)) true) (size s) 0) p.sample
      ≡ sum_by (λ item. cond (cond relative (is_some (sees_item item)) true) (told item) 0) c.samples = λ size told each.
      sum_by_said say _ (λ item. cond (cond relative (is_some (sees_item item)) true) (told item) 0) p.sample
      (all_by (λ s. seen_all s ≡ sees_item (say s)) _ (λ s is i. cond (cond relative (is_some (is i)) true) (each s i) 0) p.sample fine)
      ∙ ap (sum_by (λ item. cond (cond relative (is_some (sees_item item)) true) (told item) 0)) back in
      let value_is : (s : Sample) → value_all s ≡ value_item (say s) = value_same column config.presentation.divide_by in
      record {
        samples = own.samples ∙ ap weighed (filter_map_said say seen_all sees_item p.sample fine ∙ ap (filter_map sees_item) back);
        total = own.total ∙ (λ i. total_by
            (sizes (λ s. cond (is_base p s) (nat_abs (value_all s)) 0) (λ item. cond (is_base_item item) (nat_abs (value_item item)) 0)
            (λ s j. cond (base_told p s j) (nat_abs (value_is s j)) 0) i)
            (sizes (λ s. nat_abs (value_all s)) (λ item. nat_abs (value_item item)) (λ s. ap nat_abs (value_is s)) i));
      }

pub loaded_order_is_free : LoadedOrderIsFree
loaded_order_is_free p samples f config column values own_starts moved =
    let q : Profile = with_samples samples p in
    let starts : AllByRecursion (λ (m : MappingText). m.start < 2 ^ 64) (all_mappings (p ∷ [])) =
    all_flat (λ (m : MappingText). m.start < 2 ^ 64) (λ (r : Profile). map (mapping_text r) r.mapping) (p ∷ []) (all_mapped (λ (m : MappingText). m.start < 2 ^ 64) (mapping_text p) p.mapping own_starts, tt) in
    let says : Sample → SampleText × List ℤ = sample_text (location_found (first_alike (all_mappings (p ∷ []))) p) (text_of p) in
    let items_moved : IsPermutation (all_samples (p ∷ [])) (all_samples (q ∷ [])) = IsPermutation-append_left [] (map says p.sample) (map says samples) (IsPermutation-map says p.sample samples moved) in
    let wide : AllByRecursion (λ (item : SampleText × List ℤ). length item.1 ≡ length p.sample_type) (all_samples (p ∷ [])) =
    all_flat (λ (item : SampleText × List ℤ). length item.1 ≡ length p.sample_type) (λ (r : Profile). map says p.sample) (p ∷ []) (all_mapped (λ (item : SampleText × List ℤ). length item.1 ≡ length p.sample_type) says p.sample values, tt) in
    let first : IsSettled (contents p []) = settled_contents p [] starts in
    let second : IsSettled (contents q []) = settled_contents q [] starts in
    same_figures (sees_item f config column) (value_item f config column) (is_base_item f config column) (contents p []).samples (contents q []).samples
    (sums_moved same_sample sample_decides (length p.sample_type) (all_samples (p ∷ [])) (all_samples (q ∷ [])) items_moved wide)
    (merged p []) (merged q []) f config column (contents_told f config column (contents p []) first) (contents_told f config column (contents q []) second)
    (same_columns (merged q []) (merged p [])
    (ap (λ (c : Contents). c.header) (contents_again (contents p []) first) ∙ ap (λ (c : Contents). c.header) (sym (contents_again (contents q []) second))))
