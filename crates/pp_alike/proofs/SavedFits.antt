-- The numbers of a saved profile lie in their types, where those that the profile tells do and its bytes are few.
use Rattle.std.proofs.Common.{◌≡◌, ℕ, zero, suc, ◌+◌, ◌*◌, ◌<◌, ◌≤◌, ◌-◌, ◌^◌, ◌/◌, ◌%◌, ℤ, pos, nat_abs, Bool, true, false, cond, not, List, [], ◌∷◌, ◌++◌, map, length, get_or, Option, Some, None, sym, ap, ◌∙◌, subst, arith, length-append, w64}
use Rattle.std.specs.Prelude.{option_map, nat_lt, slice_get}
use Rattle.std.specs.List.{AllByRecursion, position_or_len}
use Rattle.std.specs.Str.{bytes_eq}
use Rattle.std.specs.Option.{option_and_then, option_map_or}
use Rattle.std.proofs.lemmas.Int.{fits_signed_from_abs}
use Rattle.std.proofs.lemmas.List.{get_or_default, length-map}
use Rattle.std.proofs.lemmas.List.Elements.{All-from_recursion, All-get_or, recursion_from_All}
use Rattle.std.proofs.lemmas.List.Sums.{get_or-le-sum_by}
use Rattle.std.proofs.lemmas.Option.{none-some, same_Some}
use Rattle.pp_base.proofs.Lists.{all_by}
use Rattle.pp_wire.specs.Spelling.{bytes_field, shortest, tag_bytes, varint_bytes}
use Rattle.pp_model.specs.declared.frame.Frame.{Frame}
use Rattle.pp_model.specs.declared.profile.Label.{Label}
use Rattle.pp_model.specs.declared.profile.Line.{Line}
use Rattle.pp_model.specs.declared.profile.Location.{Location}
use Rattle.pp_model.specs.declared.profile.Profile.{Profile}
use Rattle.pp_model.specs.declared.profile.Sample.{Sample}
use Rattle.pp_model.specs.declared.filtering.Filtering.{Filtering}
use Rattle.pp_model.specs.Conditions.{location_at}
use Rattle.pp_model.specs.Finders.{Finders}
use Rattle.pp_model.specs.Frames.{line_at}
use Rattle.pp_model.specs.Lookup.{text_of}
use Rattle.pp_model.specs.Rules.{NoRuleFails}
use Rattle.pp_model.specs.Sizes.{IsCountable, absolute_sum, value_in}
use Rattle.pp_tags.specs.Labels.{key_text}
use Rattle.pp_tags.specs.TagFilters.{is_shown, shown_labels}
use Rattle.pp_tables.specs.Encode.{encode, function_bytes, header_bytes, location_bytes, mapping_bytes, message_fields, sample_bytes, value_type_bytes}
use Rattle.pp_tables.specs.Fits.{IsInt, IsUint, ValueTypeFits, LabelFits, SampleFits, MappingFits, LineFits, LocationFits, FunctionFits, ProfileFits}
use Rattle.pp_share.specs.Alike.{equal_mapping, same_function, same_location}
use Rattle.pp_share.specs.Described.{FunctionText, LabelText, LineText, LocationText, MappingText, SampleText, label_text, mapping_text}
use Rattle.pp_share.specs.Header.{TypeText, type_text}
use Rattle.pp_share.specs.Written.{Contents, function_id, functions, index_of, location_id, locations, mapping_id, mappings, texts, written_function, written_label, written_line, written_location, written_mapping, written_sample, written_type}
use Rattle.pp_share.proofs.NumberedLemmas.{all_both, all_mapped}
use Rattle.pp_count.specs.Seeing.{filtered_stack}
use Rattle.pp_merge.specs.Merge.{all_mappings, merged}
use Rattle.pp_merge.proofs.SettledLemmas.{all_any, all_filtered, all_join, all_some, all_unmapped}
use Rattle.pp_restack.specs.Stacks.{cut_location, cut_text}
use Rattle.pp_dump.specs.Saved.{cut_sample, cut_samples, saved, saved_contents}
use Rattle.pp_saved.proofs.CutSamples.{locations_each, rows_long}
use Rattle.pp_saved.proofs.SavedHead.{same_duration}
use Rattle.pp_saved.proofs.SavedSizes.{sizes_within}
use Rattle.pp_alike.proofs.TellsFitting.{HasNumbers, HasPlace, LineTextFits, LocationTextFits, NumbersFit, RangeFits, StartFits, TellsFitting, at_place, functions_fit, kept_hold, location_fits, mappings_fit, ranges_fit}

-- ---- each entry of a table has a byte

some_byte : (n : ℕ) → 0 < length (varint_bytes n)
unfolding shortest
some_byte n = elim (nat_lt n 128) as (λ b. 0 < length (cond b (n ∷ []) ((128 + n % 128) ∷ shortest 8 (n / 128)))) [
  | true ↦ omega arith
  | false ↦ omega arith
]

entries_within : {A : Type 0} (bytes_of : A → List ℕ) (number : ℕ) (xs : List A) → length xs ≤ length (message_fields bytes_of number xs)
entries_within bytes_of number [] = omega arith
entries_within bytes_of number (x ∷ xs) =
    let bytes : List ℕ = bytes_of x in
    let rest : List ℕ = message_fields bytes_of number xs in
    let both : length (message_fields bytes_of number (x ∷ xs)) ≡ length (bytes_field number bytes) + length rest = length-append (bytes_field number bytes) rest in
    let one : length (bytes_field number bytes) ≡ length (tag_bytes number 2 ++ varint_bytes (length bytes)) + length bytes = length-append (tag_bytes number 2 ++ varint_bytes (length bytes)) bytes in
    let head : length (tag_bytes number 2 ++ varint_bytes (length bytes)) ≡ length (tag_bytes number 2) + length (varint_bytes (length bytes)) = length-append (tag_bytes number 2) (varint_bytes (length bytes)) in
    let some : 0 < length (tag_bytes number 2) = some_byte (8 * number + 2) in
    omega (arith, both, one, head, some, entries_within bytes_of number xs)

-- no table is longer than the canonical bytes
record TablesWithin (p : Profile) : Type 0 where
  samples : length p.sample ≤ length (encode p)
  mappings : length p.mapping ≤ length (encode p)
  locations : length p.location ≤ length (encode p)
  functions : length p.function ≤ length (encode p)
  texts : length p.text ≤ length (encode p)

tables_within : (p : Profile) → TablesWithin p
tables_within p =
    let a : List ℕ = message_fields value_type_bytes 1 p.sample_type in
    let b : List ℕ = message_fields sample_bytes 2 p.sample in
    let c : List ℕ = message_fields mapping_bytes 3 p.mapping in
    let d : List ℕ = message_fields location_bytes 4 p.location in
    let e : List ℕ = message_fields function_bytes 5 p.function in
    let f : List ℕ = message_fields (λ text. text) 6 p.text in
    let whole : length (encode p) ≡ length (a ++ b ++ c ++ d ++ e ++ f) + length (header_bytes p) = length-append (a ++ b ++ c ++ d ++ e ++ f) (header_bytes p) in
    let sixth = length-append (a ++ b ++ c ++ d ++ e) f in
    let fifth = length-append (a ++ b ++ c ++ d) e in
    let fourth = length-append (a ++ b ++ c) d in
    let third = length-append (a ++ b) c in
    let second = length-append a b in
    record {
      samples = omega (arith, whole, sixth, fifth, fourth, third, second, entries_within sample_bytes 2 p.sample);
      mappings = omega (arith, whole, sixth, fifth, fourth, third, entries_within mapping_bytes 3 p.mapping);
      locations = omega (arith, whole, sixth, fifth, fourth, entries_within location_bytes 4 p.location);
      functions = omega (arith, whole, sixth, fifth, entries_within function_bytes 5 p.function);
      texts = omega (arith, whole, sixth, entries_within (λ text. text) 6 p.text);
    }

-- ---- numbers that fit

place_within : {A : Type 0} (test : A → Bool) (xs : List A) → position_or_len test xs ≤ length xs
place_within test [] = omega arith
place_within test (x ∷ xs) = elim (test x) as (λ b. cond (not b) (1 + position_or_len test xs) 0 ≤ suc (length xs)) [
  | true ↦ omega arith
  | false ↦ omega (arith, place_within test xs)
]

small_fits : (z : ℤ) → nat_abs z < 2 ^ 63 → IsInt z
small_fits z small = fits_signed_from_abs w64 z small

module _ (p : Profile) (fits : TellsFitting p) where
  abbrev all : List MappingText
  all = all_mappings (p ∷ [])

  all_fit : AllByRecursion RangeFits all
  all_fit = all_join RangeFits (map (mapping_text p) p.mapping) [] (ranges_fit p fits) tt

  -- a line of a frame
  place_lines : (place : ℕ) → AllByRecursion HasPlace (location_at p place).line
  place_lines place = by p.location place fits.lines
    where
      by : (ls : List Location) (k : ℕ) → AllByRecursion (λ (l : Location). AllByRecursion HasPlace l.line) ls → AllByRecursion HasPlace (get_or ls k (record { id = 0; mapping_id = 0; address = 0; line = []; folded = false })).line
      by [] k own = tt
      by (l ∷ ls) zero own = own.0
      by (l ∷ ls) (suc k) own = by ls k own.1

  frame_line : (frame : Frame) (line : Line) → line_at p frame ≡ Some line → HasPlace line
  frame_line frame line = by frame.row
    where
      by : (row : Option ℕ) → option_and_then (λ r. slice_get (location_at p frame.location).line r) row ≡ Some line → HasPlace line
      by None is = absurd (none-some line is)
      by (Some r) is = at_place HasPlace (location_at p frame.location).line r line (place_lines frame.location) is

  cut_lines : (group : List Frame) → AllByRecursion HasPlace (cut_location p group).line
  cut_lines [] = tt
  cut_lines (frame ∷ group) = all_some HasPlace (line_at p) (frame ∷ group) (all_any (λ x. (y : Line) → line_at p x ≡ Some y → HasPlace y) frame_line (frame ∷ group))

  cut_fits : (group : List Frame) → LocationTextFits (cut_text p group)
  cut_fits group = location_fits p fits all all_fit (cut_location p group) (cut_lines group)

  module _ (f : Finders) (filtering : Filtering) where
    abbrev c : Contents
    c = saved_contents p f filtering

    abbrev q : Profile
    q = saved p f filtering

    abbrev items : List (SampleText × List ℤ)
    items = cut_samples p f filtering

    all_locations : AllByRecursion LocationTextFits (locations c)
    all_locations = locations_each p f filtering LocationTextFits cut_fits

    first_fits : (m : MappingText) → c.first_mapping ≡ Some m → RangeFits m
    first_fits m is = at_place RangeFits all 0 m all_fit is

    -- labels
    one_label : (s : Sample) → HasNumbers s → (o : Option (List Frame)) (y : SampleText × List ℤ) → option_map (cut_sample p f s) o ≡ Some y → NumbersFit y.0
    one_label s own None y found = absurd (none-some y found)
    one_label s own (Some stack) y found =
        subst (λ (x : SampleText × List ℤ). NumbersFit x.0) (same_Some (cut_sample p f s stack) y found)
        (all_mapped (λ (l : LabelText). IsInt l.num) (label_text (text_of p)) (shown_labels p f s.label)
        (all_filtered (λ (l : Label). IsInt l.num) (λ label. is_shown f (key_text p label)) s.label own))

    labels_fit : AllByRecursion (λ (s : SampleText × List ℤ). NumbersFit s.0) c.samples
    labels_fit =
        kept_hold NumbersFit (length p.sample_type) items
        (all_some (λ (item : SampleText × List ℤ). NumbersFit item.0) (λ s. option_map (cut_sample p f s) (filtered_stack p f filtering s)) p.sample
        (all_by HasNumbers (λ (s : Sample). (y : SampleText × List ℤ) → option_map (cut_sample p f s) (filtered_stack p f filtering s) ≡ Some y → NumbersFit y.0)
        (λ s own y found. one_label s own (filtered_stack p f filtering s) y found) p.sample fits.labels))

    module _ (valid : NoRuleFails p) (countable : IsCountable p) where
      sums_within : (column : ℕ) → column < length p.sample_type → absolute_sum q column ≤ 2 ^ 63 - 1
      sums_within column within = omega (arith, sizes_within p f filtering column within valid, countable.sums column within)

      samples_wide : AllByRecursion (λ (s : Sample). length s.value ≡ length p.sample_type) q.sample
      samples_wide = all_mapped (λ (s : Sample). length s.value ≡ length p.sample_type) (written_sample c) c.samples (rows_long p f filtering)

      -- each value is within the sum of its column
      value_fits : (k : ℕ) (d : Sample) → k < length q.sample → (j : ℕ) (e : ℤ) → j < length (get_or q.sample k d).value → IsInt (get_or (get_or q.sample k d).value j e)
      value_fits k d within j e below =
          let s : Sample = get_or q.sample k d in
          let wide : length s.value ≡ length p.sample_type =
          All-get_or (λ (t : Sample). length t.value ≡ length p.sample_type) q.sample k d within (All-from_recursion (λ (t : Sample). length t.value ≡ length p.sample_type) q.sample samples_wide) in
          let part : nat_abs (value_in s j) ≤ absolute_sum q j = get_or-le-sum_by (λ t. nat_abs (value_in t j)) q.sample k d within in
          let sum : absolute_sum q j ≤ 2 ^ 63 - 1 = sums_within j (omega (arith, below, wide)) in
          small_fits (get_or s.value j e) (omega (arith, part, sum, ap nat_abs (get_or_default s.value j e (pos 0) below)))

      values_fit : AllByRecursion (λ (s : SampleText × List ℤ). AllByRecursion IsInt s.1) c.samples
      values_fit =
          all_unmapped (λ (s : Sample). AllByRecursion IsInt s.value) (written_sample c) c.samples
          (recursion_from_All (λ (s : Sample). AllByRecursion IsInt s.value) q.sample (λ k d within. recursion_from_All IsInt (get_or q.sample k d).value (value_fits k d within)))

      module _ (small : length (encode q) < 2 ^ 32) where
        index_fits : (text : List ℕ) → IsInt (index_of c text)
        index_fits text = small_fits (index_of c text) (omega (arith, small, (tables_within q).texts, place_within (bytes_eq text) (texts c)))

        location_id_fits : (l : LocationText) → IsUint (location_id c l)
        location_id_fits l = omega (arith, small, (tables_within q).locations, length-map (locations c) (written_location c), place_within (same_location l) (locations c))

        mapping_id_fits : (m : MappingText) → IsUint (mapping_id c m)
        mapping_id_fits m = omega (arith, small, (tables_within q).mappings, length-map (mappings c) (written_mapping c), place_within (equal_mapping m) (mappings c))

        function_id_fits : (t : FunctionText) → IsUint (function_id c t)
        function_id_fits t = omega (arith, small, (tables_within q).functions, length-map (functions c) (written_function c), place_within (same_function t) (functions c))

        -- the id of what is there, and 0 of what isn't
        id_or_none : {A : Type 0} (id_of : A → ℕ) (o : Option A) → ((x : A) → IsUint (id_of x)) → IsUint (option_map_or id_of o 0)
        id_or_none id_of None each = omega arith
        id_or_none id_of (Some x) each = each x

        type_fits : (t : TypeText) → ValueTypeFits (written_type c t)
        type_fits t = record { kind = index_fits t.kind; unit = index_fits t.unit }

        label_fits : (l : LabelText) → IsInt l.num → LabelFits (written_label c l)
        label_fits l own = record { key = index_fits l.key; text = index_fits l.text; num = own; num_unit = index_fits l.unit }

        sample_fits : (s : SampleText × List ℤ) → AllByRecursion IsInt s.1 × NumbersFit s.0 → SampleFits (written_sample c s)
        sample_fits s own = record {
          location_id = all_mapped IsUint (location_id c) s.0.locations (all_any (λ l. IsUint (location_id c l)) location_id_fits s.0.locations);
          value = own.0;
          label = all_mapped LabelFits (written_label c) s.0.labels (all_by (λ (l : LabelText). IsInt l.num) (λ l. LabelFits (written_label c l)) label_fits s.0.labels own.1);
        }

        one_mapping : (m : MappingText) → RangeFits m → MappingFits (written_mapping c m)
        one_mapping m own = record {
          id = mapping_id_fits m;
          start = own.start;
          limit = own.limit;
          offset = own.offset;
          file = index_fits m.file;
          build_id = index_fits m.build_id;
        }

        one_line : (l : LineText) → LineTextFits l → LineFits (written_line c l)
        one_line l own = record { function_id = id_or_none (function_id c) l.function function_id_fits; line = own.line; column = own.column }

        one_location : (l : LocationText) → LocationTextFits l → LocationFits (written_location c l)
        one_location l own = record {
          id = location_id_fits l;
          mapping_id = id_or_none (mapping_id c) l.mapping mapping_id_fits;
          address = omega arith;
          line = all_mapped LineFits (written_line c) l.lines (all_by LineTextFits (λ line. LineFits (written_line c line)) one_line l.lines own.lines);
        }

        one_function : (t : FunctionText) → StartFits t → FunctionFits (written_function c t)
        one_function t own = record {
          id = function_id_fits t;
          name = index_fits t.name;
          system_name = index_fits t.system_name;
          filename = index_fits t.file;
          start_line = own;
        }

        -- All its numbers fit.
        pub saved_fits : merged p [] ≡ p → ProfileFits q
        saved_fits settled = record {
          sample_type = all_mapped ValueTypeFits (written_type c) c.header.types (all_any (λ t. ValueTypeFits (written_type c t)) type_fits c.header.types);
          sample = all_mapped SampleFits (written_sample c) c.samples (all_by (λ s. AllByRecursion IsInt s.1 × NumbersFit s.0) (λ s. SampleFits (written_sample c s)) sample_fits c.samples
              (all_both (λ s. AllByRecursion IsInt s.1) (λ s. NumbersFit s.0) c.samples values_fit labels_fit));
          mapping = all_mapped MappingFits (written_mapping c) (mappings c) (all_by RangeFits (λ m. MappingFits (written_mapping c m)) one_mapping (mappings c) (mappings_fit c all_locations first_fits));
          location = all_mapped LocationFits (written_location c) (locations c) (all_by LocationTextFits (λ l. LocationFits (written_location c l)) one_location (locations c) all_locations);
          function = all_mapped FunctionFits (written_function c) (functions c) (all_by StartFits (λ t. FunctionFits (written_function c t)) one_function (functions c) (functions_fit c all_locations));
          drop_frames = index_fits c.header.drop_frames;
          keep_frames = index_fits c.header.keep_frames;
          time_nanos = fits.time_nanos;
          duration_nanos = subst IsInt (sym (same_duration p f filtering settled)) fits.duration_nanos;
          period_type = type_fits c.header.period_type;
          period = fits.period;
          comment = all_mapped IsInt (index_of c) c.header.comments (all_any (λ text. IsInt (index_of c text)) index_fits c.header.comments);
          default_sample_type = index_fits c.header.default_sample_type;
          doc_url = index_fits c.header.doc_url;
        }

        types_as_many : length q.sample_type ≡ length p.sample_type
        types_as_many = length-map (map (type_text p) p.sample_type) (written_type c) ∙ length-map p.sample_type (type_text p)

        -- It can be counted.
        pub saved_countable : IsCountable q
        saved_countable = record {
          samples = omega (arith, small, (tables_within q).samples);
          columns = omega (arith, countable.columns, types_as_many);
          sums = λ column within. sums_within column (omega (arith, within, types_as_many));
        }
