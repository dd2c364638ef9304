-- The profile that is made loads from its bytes, which are few enough for a file.
use Rattle.std.proofs.Common.{◌≡◌, ℕ, ◌+◌, ◌*◌, ◌^◌, ◌<◌, ◌≤◌, ℤ, pos, Bool, true, false, if◌then◌else◌, List, [], ◌∷◌, ◌++◌, map, length, refl, sym, subst, arith, lit≤}
use Rattle.std.specs.Prelude.{Option, Some, None}
use Rattle.std.specs.List.{AllByRecursion, filter_map, flat_map}
use Rattle.std.specs.Option.{option_map_or}
use Rattle.std.specs.Str.{bytes_eq}
use Rattle.std.proofs.lemmas.List.{length-map}
use Rattle.std.proofs.lemmas.List.FromFn.{length-map-range_with_len}
use Rattle.std.proofs.lemmas.List.Sums.{sum_by-cons}
use Rattle.pp_base.proofs.Lists.{all_by}
use Rattle.pp_model.specs.declared.profile.ValueType.{ValueType}
use Rattle.pp_model.specs.declared.profile.Line.{Line}
use Rattle.pp_model.specs.declared.profile.Location.{Location}
use Rattle.pp_model.specs.declared.profile.Function.{Function}
use Rattle.pp_model.specs.declared.profile.Profile.{Profile}
use Rattle.pp_model.specs.FirstSight.{place_of}
use Rattle.pp_model.specs.Rules.{NoRuleFails}
use Rattle.pp_share.specs.Alike.{same_function, same_location}
use Rattle.pp_share.specs.Described.{FunctionText, LineText, LocationText, LabelText, SampleText}
use Rattle.pp_share.specs.Header.{TypeText, type_text}
use Rattle.pp_share.specs.Written.{Contents, locations, functions, mappings, texts, walked_texts, type_texts, label_texts, index_of, function_id, mapping_id, location_id, written_function, written_label, written_line, written_location, written_mapping, written_sample}
use Rattle.pp_share.proofs.IdLemmas.{place_within}
use Rattle.pp_share.proofs.NumberedLemmas.{all_mapped}
use Rattle.pp_wire.specs.Spelling.{varint_bytes, bytes_field, packed_field}
use Rattle.pp_wire.proofs.Briefest.{length_shortest}
use Rattle.pp_tables.specs.Encode.{unsigned, int_field, message_fields, value_type_bytes, label_bytes, sample_bytes, mapping_bytes, line_bytes, location_bytes, function_bytes, bit, is_no_type, period_type_field, table_bytes, header_bytes, encode}
use Rattle.pp_tables.specs.Fits.{IsInt, LabelFits, RowFits, LineFits, LocationFits, MappingFits, FunctionFits, ProfileFits}
use Rattle.pp_tables.proofs.Numbers.{profile_fits}
use Rattle.pp_merge.specs.Merge.{contents, merged}
use Rattle.pp_merge.specs.Lengths.{IsNoLonger}
use Rattle.pp_merge.proofs.MergedLengths.{no_longer}
use Rattle.pp_merge.proofs.MergeLemmas.{fits_contents}
use Rattle.pp_merge.proofs.SettledLemmas.{all_join, all_flat, all_distinct, all_some}
use Rattle.pp_merge.proofs.WrittenCompact.{location_walk, function_walk}
use Rattle.pp_merge.proofs.WrittenValid.{valid_written}
use Rattle.pp_load.specs.Generator.{made, made_sample, generated}
use Rattle.pp_load.specs.GeneratedLoads.{GeneratedLoads, GeneratedIsSmall}
use Rattle.pp_load.proofs.DecodeLemmas.{written_loaded}
use Rattle.pp_load.proofs.MadeLemmas.{made_valid}
use Rattle.pp_load.proofs.GeneratedRows.{int_fits, IsShort, FunctionKnown, LineKnown, LocationKnown, LabelKnown, SampleKnown, IsRow, IsKept, kept_known}
use Rattle.pp_load.proofs.SpelledSizes.{joined, number_most, number_within, run_most, flat_within, packed_within, messages_most, messages_within}

-- ---- how long messages are at most

value_type_most : (v : ValueType) → length (value_type_bytes v) ≤ 22
value_type_most v = joined _ _ 11 11 (number_most 1 (unsigned v.kind) (omega arith)) (number_most 2 (unsigned v.unit) (omega arith))

line_most : (l : Line) → length (line_bytes l) ≤ 33
line_most l = joined _ _ 22 11 (joined _ _ 11 11 (number_most 1 l.function_id (omega arith)) (number_most 2 (unsigned l.line) (omega arith))) (number_most 3 (unsigned l.column) (omega arith))

function_most : (f : Function) → length (function_bytes f) ≤ 55
function_most f =
    joined _ _ 44 11 (joined _ _ 33 11 (joined _ _ 22 11 (joined _ _ 11 11 (number_most 1 f.id (omega arith)) (number_most 2 (unsigned f.name) (omega arith))) (number_most 3 (unsigned f.system_name) (omega arith))) (number_most 4 (unsigned f.filename) (omega arith))) (number_most 5 (unsigned f.start_line) (omega arith))

period_most : (v : ValueType) → length (period_type_field v) ≤ 33
period_most v = by (is_no_type v)
  where
    by : (b : Bool) → length (if b then [] else bytes_field 11 (value_type_bytes v)) ≤ 33
    by true = omega arith
    by false = omega (arith, run_most 11 (value_type_bytes v) (omega arith), value_type_most v)

header_most : (p : Profile) → p.comment ≡ [] → length (header_bytes p) ≤ 110
header_most p none =
    let comments : length (packed_field 13 (map unsigned p.comment)) ≤ 0 =
    subst (λ (list : List ℤ). length (packed_field 13 (map unsigned list)) ≤ 0) (sym none) (omega arith) in
    joined _ _ 99 11 (joined _ _ 88 11 (joined _ _ 88 0 (joined _ _ 77 11 (joined _ _ 44 33 (joined _ _ 33 11 (joined _ _ 22 11 (joined _ _ 11 11 (number_most 7 (unsigned p.drop_frames) (omega arith)) (number_most 8 (unsigned p.keep_frames) (omega arith))) (number_most 9 (unsigned p.time_nanos) (omega arith))) (number_most 10 (unsigned p.duration_nanos) (omega arith))) (period_most p.period_type)) (number_most 12 (unsigned p.period) (omega arith))) comments) (number_most 14 (unsigned p.default_sample_type) (omega arith))) (number_most 15 (unsigned p.doc_url) (omega arith))

none_all : {A : Type 0} (P : A → Type 0) (xs : List A) → length xs ≤ 0 → AllByRecursion P xs
none_all P [] none = tt
none_all P (x ∷ xs) none = absurd (omega (arith, none))

every : {A : Type 0} (P : A → Type 0) → ((x : A) → P x) → (xs : List A) → AllByRecursion P xs
every P each [] = tt
every P each (x ∷ xs) = (each x, every P each xs)

-- of a location with one line at most
location_most : (l : Location) → length l.line ≤ 1 → length (location_bytes l) ≤ 88
location_most l few =
    let lines : length (message_fields line_bytes 4 l.line) ≤ 44 = omega (arith, messages_most line_bytes 4 33 l.line (omega arith) (every (λ line. length (line_bytes line) ≤ 33) line_most l.line), few) in
    joined _ _ 77 11 (joined _ _ 33 44 (joined _ _ 22 11 (joined _ _ 11 11 (number_most 1 l.id (omega arith)) (number_most 2 l.mapping_id (omega arith))) (number_most 3 l.address (omega arith))) lines) (number_most 5 (bit l.folded) (omega arith))

module _ (samples : ℕ) (few : samples ≤ 1000000) where
  abbrev c : Contents
  c = contents (made samples) []

  abbrev p : Profile
  p = merged (made samples) []

  valid : NoRuleFails p
  valid = valid_written c (fits_contents (made samples) [])

  within : IsNoLonger p (made samples ∷ [])
  within = no_longer (made samples) [] (made_valid samples, tt)

  kept : AllByRecursion IsKept c.samples
  kept = kept_known samples few

  -- ---- lengths of tables

  texts_few : length p.text ≤ 16
  texts_few = omega (arith, within.texts, sum_by-cons (λ (q : Profile). length q.text) (made samples) [])

  types_few : length p.sample_type ≤ 2
  types_few = omega (arith, within.sample_types, sum_by-cons (λ (q : Profile). length q.sample_type) (made samples) [])

  samples_few : length p.sample ≤ samples
  samples_few = omega (arith, within.samples, sum_by-cons (λ (q : Profile). length q.sample) (made samples) [], length-map-range_with_len made_sample 0 samples)

  mappings_none : length p.mapping ≤ 0
  mappings_none = omega (arith, within.mappings, sum_by-cons (λ (q : Profile). length q.mapping) (made samples) [])

  locations_few : length (locations c) ≤ 9
  locations_few = omega (arith, within.locations, sum_by-cons (λ (q : Profile). length q.location) (made samples) [], length-map (locations c) (written_location c))

  functions_few : length (functions c) ≤ 9
  functions_few = omega (arith, within.functions, sum_by-cons (λ (q : Profile). length q.function) (made samples) [], length-map (functions c) (written_function c))

  -- ---- numbers fit

  index_small : (text : List ℕ) → place_of bytes_eq (texts c) text ≤ 16
  index_small text = omega (arith, place_within (bytes_eq text) (texts c), texts_few)

  index_fits : (text : List ℕ) → IsInt (index_of c text)
  index_fits text = int_fits _ (omega (arith, index_small text))

  location_small : (l : LocationText) → location_id c l ≤ 10
  location_small l = omega (arith, place_within (same_location l) (locations c), locations_few)

  function_small : (f : Option FunctionText) → option_map_or (function_id c) f 0 ≤ 10
  function_small None = omega arith
  function_small (Some f) = omega (arith, place_within (same_function f) (functions c), functions_few)

  label_fits : (l : LabelText) → LabelKnown l → LabelFits (written_label c l)
  label_fits l known = record {
    key = index_fits l.key;
    text = index_fits l.text;
    num = subst IsInt (sym known.is) (int_fits known.number (omega (arith, known.small)));
    num_unit = index_fits l.unit;
  }

  row_fits : (s : SampleText × List ℤ) → IsKept s → RowFits (written_sample c s)
  row_fits s known = record {
    value = subst (AllByRecursion IsInt) (sym known.1.is) (int_fits known.1.count (omega (arith, known.1.few)), (int_fits known.1.time (omega (arith, known.1.short)), tt));
    label = all_mapped LabelFits (written_label c) s.0.labels (all_by LabelKnown _ label_fits s.0.labels known.0.labels);
  }

  line_fits : (l : LineText) → LineKnown l → LineFits (written_line c l)
  line_fits l known = record { function_id = omega (arith, function_small l.function); line = known.line; column = known.column }

  location_fits : (l : LocationText) → LocationKnown l → LocationFits (written_location c l)
  location_fits l known = record {
    id = omega (arith, location_small l);
    mapping_id = subst (λ m. option_map_or (mapping_id c) m 0 < 2 ^ 64) (sym known.mapping) (omega arith);
    address = omega arith;
    line = all_mapped LineFits (written_line c) l.lines (all_by LineKnown _ line_fits l.lines known.lines);
  }

  function_fits : (f : FunctionText) → FunctionKnown f → FunctionFits (written_function c f)
  function_fits f known = record {
    id = omega (arith, function_small (Some f));
    name = index_fits f.name;
    system_name = index_fits f.system_name;
    filename = index_fits f.file;
    start_line = known.start;
  }

  locations_known : AllByRecursion LocationKnown (locations c)
  locations_known =
      all_distinct LocationKnown same_location (location_walk c) (all_flat LocationKnown (λ s. s.0.locations) c.samples (all_by IsKept _ (λ s k. k.0.locations) c.samples kept))

  functions_known : AllByRecursion FunctionKnown (functions c)
  functions_known =
      all_distinct FunctionKnown same_function (function_walk c)
      (all_flat FunctionKnown (λ l. filter_map (λ line. line.function) l.lines) (locations c)
      (all_by LocationKnown _ (λ l k. all_some FunctionKnown (λ line. line.function) l.lines (all_by LineKnown _ (λ line j. j.function) l.lines k.lines)) (locations c) locations_known))

  -- the two types
  abbrev count : TypeText
  count = type_text (made samples) (record { kind = pos 1; unit = pos 2 })

  abbrev time : TypeText
  time = type_text (made samples) (record { kind = pos 3; unit = pos 4 })

  fits : ProfileFits p
  fits = profile_fits p valid (record {
    tables = record {
      sample_type = (record { kind = index_fits count.kind; unit = index_fits count.unit }, (record { kind = index_fits time.kind; unit = index_fits time.unit }, tt));
      sample = all_mapped RowFits (written_sample c) c.samples (all_by IsKept _ row_fits c.samples kept);
      mapping = none_all MappingFits p.mapping mappings_none;
      location = all_mapped LocationFits (written_location c) (locations c) (all_by LocationKnown _ location_fits (locations c) locations_known);
      function = all_mapped FunctionFits (written_function c) (functions c) (all_by FunctionKnown _ function_fits (functions c) functions_known);
    };
    header = record {
      drop_frames = index_fits c.header.drop_frames;
      keep_frames = index_fits c.header.keep_frames;
      time_nanos = int_fits 0 (omega arith);
      duration_nanos = int_fits 0 (omega arith);
      period_type = record { kind = index_fits c.header.period_type.kind; unit = index_fits c.header.period_type.unit };
      period = int_fits 0 (omega arith);
      comment = tt;
      default_sample_type = index_fits c.header.default_sample_type;
      doc_url = index_fits c.header.doc_url;
    };
  })

  -- ---- how long it is

  label_size : (l : LabelText) → LabelKnown l → length (label_bytes (written_label c l)) ≤ 10
  label_size l known =
      joined _ _ 8 2 (joined _ _ 4 4 (joined _ _ 2 2 (number_within 1 0 (place_of bytes_eq (texts c) l.key) (omega arith) (omega (arith, index_small l.key))) (number_within 2 0 (place_of bytes_eq (texts c) l.text) (omega arith) (omega (arith, index_small l.text)))) (subst (λ z. length (int_field 3 z) ≤ 4) (sym known.is) (number_within 3 2 known.number (omega arith) (omega (arith, known.small))))) (number_within 4 0 (place_of bytes_eq (texts c) l.unit) (omega arith) (omega (arith, index_small l.unit)))

  labels_size : (s : SampleText) → SampleKnown s → length (message_fields label_bytes 3 (map (written_label c) s.labels)) ≤ 12
  labels_size s known =
      let all = all_mapped (λ l. length (label_bytes l) ≤ 10) (written_label c) s.labels (all_by LabelKnown _ label_size s.labels known.labels) in
      omega (arith, messages_within label_bytes 3 10 (map (written_label c) s.labels) (omega arith) (omega arith) all, length-map s.labels (written_label c), known.few)

  values_size : (row : List ℤ) → IsRow 8000000000 row → length (packed_field 2 (map unsigned row)) ≤ 12
  values_size row known =
      let numbers = known.count ∷ known.time ∷ [] in
      subst (λ values. length (packed_field 2 (map unsigned values)) ≤ 12) (sym known.is)
      (packed_within 2 10 numbers (omega arith)
      (flat_within varint_bytes 5 numbers (length_shortest 9 4 known.count (omega (arith, known.few)), (length_shortest 9 4 known.time (omega (arith, known.short)), tt))) (omega arith))

  frames_size : (s : SampleText) → SampleKnown s → length (packed_field 1 (map (location_id c) s.locations)) ≤ 11
  frames_size s known =
      let ids = map (location_id c) s.locations in
      let each : AllByRecursion (λ id. length (varint_bytes id) ≤ 1) ids =
      all_mapped (λ id. length (varint_bytes id) ≤ 1) (location_id c) s.locations
      (every (λ l. length (varint_bytes (location_id c l)) ≤ 1) (λ l. length_shortest 9 0 (location_id c l) (omega (arith, location_small l))) s.locations) in
      let size : length (flat_map varint_bytes ids) ≤ 9 = omega (arith, flat_within varint_bytes 1 ids each, length-map s.locations (location_id c), known.frames) in
      packed_within 1 9 ids (omega arith) size (omega arith)

  sample_size : (s : SampleText × List ℤ) → IsKept s → length (sample_bytes (written_sample c s)) ≤ 35
  sample_size s known = joined _ _ 23 12 (joined _ _ 11 12 (frames_size s.0 known.0) (values_size s.1 known.1)) (labels_size s.0 known.0)

  samples_size : length (message_fields sample_bytes 2 p.sample) ≤ 37 * samples
  samples_size =
      let all = all_mapped (λ s. length (sample_bytes s) ≤ 35) (written_sample c) c.samples (all_by IsKept _ sample_size c.samples kept) in
      omega (arith, messages_within sample_bytes 2 35 p.sample (omega arith) (omega arith) all, samples_few)

  types_size : length (message_fields value_type_bytes 1 p.sample_type) ≤ 66
  types_size = omega (arith, messages_most value_type_bytes 1 22 p.sample_type (omega arith) (every (λ v. length (value_type_bytes v) ≤ 22) value_type_most p.sample_type), types_few)

  mappings_size : length (message_fields mapping_bytes 3 p.mapping) ≤ 0
  mappings_size = omega (arith, messages_most mapping_bytes 3 0 p.mapping (omega arith) (none_all (λ m. length (mapping_bytes m) ≤ 0) p.mapping mappings_none), mappings_none)

  location_size : (l : LocationText) → LocationKnown l → length (location_bytes (written_location c l)) ≤ 88
  location_size l known = location_most (written_location c l) (omega (arith, length-map l.lines (written_line c), known.few))

  locations_size : length (message_fields location_bytes 4 p.location) ≤ 891
  locations_size =
      let all = all_mapped (λ l. length (location_bytes l) ≤ 88) (written_location c) (locations c) (all_by LocationKnown _ location_size (locations c) locations_known) in
      omega (arith, messages_most location_bytes 4 88 p.location (omega arith) all, length-map (locations c) (written_location c), locations_few)

  functions_size : length (message_fields function_bytes 5 p.function) ≤ 594
  functions_size =
      omega (
        arith,
        messages_most function_bytes 5 55 p.function (omega arith) (every (λ f. length (function_bytes f) ≤ 55) function_most p.function),
        length-map (functions c) (written_function c),
        functions_few,
      )

  -- the texts behind each part of the walk
  abbrev behind_period : List (List ℕ)
  behind_period = c.header.comments ++ (c.header.default_sample_type ∷ c.header.doc_url ∷ [])

  abbrev behind_patterns : List (List ℕ)
  behind_patterns = type_texts c.header.period_type ++ behind_period

  abbrev behind_functions : List (List ℕ)
  behind_functions = (c.header.drop_frames ∷ c.header.keep_frames ∷ []) ++ behind_patterns

  abbrev behind_mappings : List (List ℕ)
  behind_mappings = flat_map (λ f. f.name ∷ f.system_name ∷ f.file ∷ []) (functions c) ++ behind_functions

  abbrev behind_labels : List (List ℕ)
  behind_labels = flat_map (λ m. m.file ∷ m.build_id ∷ []) (mappings c) ++ behind_mappings

  abbrev behind_types : List (List ℕ)
  behind_types = flat_map (λ s. flat_map label_texts s.0.labels) c.samples ++ behind_labels

  abbrev behind_empty : List (List ℕ)
  behind_empty = flat_map type_texts c.header.types ++ behind_types

  texts_short : AllByRecursion IsShort p.text
  texts_short =
      all_distinct IsShort bytes_eq (walked_texts c)
      (all_join IsShort ([] ∷ []) behind_empty (lit≤ tt, tt)
      (all_join IsShort (flat_map type_texts c.header.types) behind_types (lit≤ tt, (lit≤ tt, (lit≤ tt, (lit≤ tt, tt))))
      (all_join IsShort (flat_map (λ s. flat_map label_texts s.0.labels) c.samples) behind_labels
      (all_flat IsShort (λ s. flat_map label_texts s.0.labels) c.samples
      (all_by IsKept _ (λ s k. all_flat IsShort label_texts s.0.labels (all_by LabelKnown _ (λ l j. (j.key, (j.text, (j.unit, tt)))) s.0.labels k.0.labels)) c.samples kept))
      (all_join IsShort (flat_map (λ m. m.file ∷ m.build_id ∷ []) (mappings c)) behind_mappings
      (all_flat IsShort (λ m. m.file ∷ m.build_id ∷ []) (mappings c)
      (none_all (λ m. AllByRecursion IsShort (m.file ∷ m.build_id ∷ [])) (mappings c) (omega (arith, mappings_none, length-map (mappings c) (written_mapping c)))))
      (all_join IsShort (flat_map (λ f. f.name ∷ f.system_name ∷ f.file ∷ []) (functions c)) behind_functions
      (all_flat IsShort (λ f. f.name ∷ f.system_name ∷ f.file ∷ []) (functions c)
      (all_by FunctionKnown _ (λ f k. (k.name, (k.system_name, (k.file, tt)))) (functions c) functions_known))
      (all_join IsShort (c.header.drop_frames ∷ c.header.keep_frames ∷ []) behind_patterns (lit≤ tt, (lit≤ tt, tt))
      (all_join IsShort (type_texts c.header.period_type) behind_period (lit≤ tt, (lit≤ tt, tt))
      (all_join IsShort c.header.comments (c.header.default_sample_type ∷ c.header.doc_url ∷ []) tt (lit≤ tt, (lit≤ tt, tt))))))))))

  texts_size : length (message_fields (λ text. text) 6 p.text) ≤ 352
  texts_size = omega (arith, messages_most (λ text. text) 6 11 p.text (omega arith) texts_short, texts_few)

  pub size : length (encode p) ≤ 37 * samples + 2013
  size =
      let tables : length (table_bytes p) ≤ 66 + 37 * samples + 0 + 891 + 594 + 352 =
      joined _ _ _ _ (joined _ _ _ _ (joined _ _ _ _ (joined _ _ _ _ (joined _ _ _ _ types_size samples_size) mappings_size) locations_size) functions_size) texts_size in
      let whole : length (encode p) ≤ 66 + 37 * samples + 0 + 891 + 594 + 352 + 110 = joined _ _ _ _ tables (header_most p refl) in
      omega (arith, whole)

-- a bound of numbers alone
few_bytes : (size samples : ℕ) → samples ≤ 1000000 → size ≤ 37 * samples + 2013 → size ≤ 40000000
few_bytes size samples few within = omega (arith, few, within)

-- The bytes load as the profile.
pub made_loads : GeneratedLoads
unfolding generated
made_loads samples source few =
    written_loaded source (merged (made samples) []) (valid samples few) (fits samples few) (omega (arith, few_bytes _ samples few (size samples few)))

-- They are few enough for a file.
pub made_is_small : GeneratedIsSmall
unfolding generated
made_is_small samples few = few_bytes _ samples few (size samples few)
