-- A profile with each mapping and each location once says, as it stands, what it said with mappings as the first ones
-- of their kind.
use Rattle.std.proofs.Common.{◌≡◌, ℕ, ◌+◌, ◌-◌, ◌<◌, ◌≤◌, Bool, true, false, true≢false, ◌&&◌, nat_eq, ℤ, pos, List, [], ◌∷◌, map, length, get_or, Option, None, Some, refl, sym, ap, subst, ◌∙◌, if◌then◌else◌, arith}
use Rattle.std.specs.Prelude.{slice_get}
use Rattle.std.specs.Ordering.{int_eq}
use Rattle.std.specs.Bool.{beq}
use Rattle.std.specs.Option.{option_map, option_map_or, unwrap_or}
use Rattle.std.specs.List.{AllByRecursion, IsDistinct}
use Rattle.std.specs.Str.{bytes_eq}
use Rattle.std.specs.Cmp.{IsEquivalence, nat_eq_equiv, decided}
use Rattle.std.specs.Cmp.Lexicographic.{lists_equiv, pointwise}
use Rattle.std.proofs.lemmas.List.{length-map}
use Rattle.std.proofs.lemmas.List.Folds.{find_at}
use Rattle.std.proofs.lemmas.Option.{slice_get-get_or}
use Rattle.std.proofs.lemmas.Simd.{map-map}
use Rattle.pp_model.specs.declared.profile.Mapping.{Mapping}
use Rattle.pp_model.specs.declared.profile.Location.{Location}
use Rattle.pp_model.specs.declared.profile.Line.{Line}
use Rattle.pp_model.specs.declared.profile.Profile.{Profile}
use Rattle.pp_model.specs.Conditions.{no_location}
use Rattle.pp_model.specs.Lookup.{text_of, place_read}
use Rattle.pp_share.specs.declared.ids.Ids.TheVariants.{By}
use Rattle.pp_model.specs.FirstSight.{distinct, place_of, ids}
use Rattle.pp_share.specs.Ids.{listed_id}
use Rattle.pp_share.specs.Described.{FunctionText, MappingText, LocationText, less, plus, start_of, function_text, mapping_text, line_text, location_text, sample_text, nowhere}
use Rattle.pp_share.specs.Alike.{same_function, same_mapping, equal_mapping, same_line, same_location, identity, first_alike}
use Rattle.pp_share.specs.Header.{header_of}
use Rattle.pp_share.specs.Placed.{functions_of, mappings_of, function_placed, mapping_placed, locations_of, location_placed, gist, plain}
use Rattle.pp_share.specs.PlaceKeys.{mapping_key, start_at, distant, near, equal_line, same_place}
use Rattle.pp_share.specs.Renumbered.{renumbered_sample, renumbered_label}
use Rattle.pp_share.specs.Shared.{by_locations, alike_mappings, distant_locations, with_shared_places}
use Rattle.pp_model.proofs.LookupLemmas.{no_mapping}
use Rattle.pp_model.proofs.FirstSightLemmas.{distinct-map, all-seen_after, distinct_apart}
use Rattle.pp_share.proofs.Agreement.{numbers-map}
use Rattle.pp_share.proofs.Deciding.{function_decides, mapping_decides, location_decides}
use Rattle.pp_share.proofs.MergedMapping.{mapping_laws}
use Rattle.pp_share.proofs.Tables.{Names, IsRef, read-map}
use Rattle.pp_share.proofs.Lists.{map_as, all_mapped, option_map-same, pointwise_as}
use Rattle.pp_share.proofs.Renaming.{maps_agree, same_sample_text}
use Rattle.pp_share.proofs.Once.{read_same, read_kept, id_kept, ref_kept, place_below, seen_at, find_distinct, first_distinct, apart_finer, refs_tell}
use Rattle.pp_share.proofs.Ready.{InTexts, LabelIn, MappingIn, LocationIn, SampleIn}
use Rattle.pp_share.proofs.SharedFunctions.{text_tells, int_same}
use Rattle.pp_share.proofs.EntryLemmas.{less_plus, none_text, none_mapping}

pub less_below : (a s : ℕ) → less a s < 18446744073709551616
less_below a s = omega arith

pub plus_below : (a s : ℕ) → plus a s < 18446744073709551616
plus_below a s = omega arith

-- the start that the code reads is the one that is written out
pub starts : (p : Profile) (ms : List Mapping) (id : ℕ) → start_at ms id ≡ start_of (place_read (map (mapping_text p) ms) id)
starts p ms id = both (place_read ms id) ∙ ap start_of (sym (read-map (mapping_text p) ms id))
  where
    both : (o : Option Mapping) → option_map_or (λ m. m.start) o 0 ≡ option_map_or (λ m. m.start) (option_map (mapping_text p) o) 0
    both None = refl
    both (Some m) = refl

-- a location's key: it refers to one of m mappings and f functions, and its distance has 64 bits
pub record KeyIn (m f : ℕ) (k : Location) : Type 0 where
  pub mapping : IsRef m k.mapping_id
  pub lines : AllByRecursion (λ (line : Line). IsRef f line.function_id) k.line
  pub distance : k.address < 18446744073709551616

-- a location is equal to itself
pub place_self : (k : Location) → same_place k k ≡ true
place_self k =
    (λ t. nat_eq_equiv.refl k.mapping_id t && (nat_eq_equiv.refl k.address t && (lines_self k.line t && folded_self k.folded t)))
  where
    line_self : (l : Line) → equal_line l l ≡ true
    line_self l = (λ t. nat_eq_equiv.refl l.function_id t && (int_same l.line t && int_same l.column t))

    lines_self : (ls : List Line) → pointwise equal_line ls ls ≡ true
    lines_self [] = refl
    lines_self (l ∷ ls) = (λ t. line_self l t && lines_self ls t)

    folded_self : (b : Bool) → beq b b ≡ true
    folded_self true = refl
    folded_self false = refl

-- what a profile keeps to whose texts and functions stand once
pub record HasFunctions (p : Profile) : Type 0 where
  pub texts_apart : IsDistinct bytes_eq p.text
  pub empty : get_or p.text 0 [] ≡ []
  pub some : 1 ≤ length p.text
  pub functions_apart : IsDistinct same_function (functions_of p)
  pub mappings : AllByRecursion (MappingIn (length p.text)) p.mapping
  pub lines : AllByRecursion (λ (l : Location). AllByRecursion (λ (line : Line). IsRef (length p.function) line.function_id) l.line) p.location
  pub samples : AllByRecursion (SampleIn (length p.text) (length p.location)) p.sample

module _ (p : Profile) (has : HasFunctions p) where
  abbrev n : ℕ
  n = length p.text

  abbrev r : Profile
  r = with_shared_places p

  abbrev MT : List MappingText
  MT = mappings_of p

  abbrev mids : List ℕ
  mids = ids alike_mappings p.mapping

  laws_T : IsEquivalence bytes_eq
  laws_T = lists_equiv nat_eq_equiv

  -- Mappings.
  zero_in : InTexts n (pos 0)
  zero_in = (refl, has.some)

  empty_tells : (i : ℤ) → InTexts n i → bytes_eq [] (text_of p i) ≡ int_eq i (pos 0)
  empty_tells i is =
      laws_T.symm [] (text_of p i) ∙ ap (bytes_eq (text_of p i)) (sym has.empty)
      ∙ text_tells p has.texts_apart i (pos 0) is zero_in

  abbrev chosen : Bool → Mapping → ℤ
  chosen b m = if b then m.file else m.build_id

  chosen_in : (b : Bool) (m : Mapping) → MappingIn n m → InTexts n (chosen b m)
  chosen_in true m is = is.file
  chosen_in false m is = is.build_id

  chosen_text : (b : Bool) (m : Mapping) → (if b then text_of p m.file else text_of p m.build_id) ≡ text_of p (chosen b m)
  chosen_text true m = refl
  chosen_text false m = refl

  identity_is : (m : Mapping) → MappingIn n m → identity (mapping_text p m) ≡ text_of p (mapping_key m).identity
  identity_is m is =
      ap (λ b. if b then text_of p m.file else text_of p m.build_id) (empty_tells m.build_id is.build_id)
      ∙ chosen_text (int_eq m.build_id (pos 0)) m

  agree_M : (a b : Mapping) → MappingIn n a → MappingIn n b → same_mapping (mapping_text p a) (mapping_text p b) ≡ alike_mappings a b
  agree_M a b in_a in_b =
      (λ t. nat_eq (a.limit - a.start) (b.limit - b.start) && (nat_eq a.offset b.offset
      && ((λ j. bytes_eq (identity_is a in_a j) (identity_is b in_b j))
      ∙ text_tells p has.texts_apart (mapping_key a).identity (mapping_key b).identity
      (chosen_in (int_eq a.build_id (pos 0)) a in_a) (chosen_in (int_eq b.build_id (pos 0)) b in_b)) t))

  table_M : mappings_of r ≡ distinct same_mapping MT
  table_M = sym (distinct-map alike_mappings same_mapping (mapping_text p) (MappingIn n) agree_M p.mapping has.mappings)

  mids_are : mids ≡ ids same_mapping MT
  mids_are = ap (map (λ k. k + 1)) (sym (numbers-map alike_mappings same_mapping (mapping_text p) (MappingIn n) agree_M p.mapping has.mappings))

  first_kept : (k : ℕ) → k < length MT → slice_get (distinct same_mapping MT) (place_of same_mapping (distinct same_mapping MT) (get_or MT k none_mapping))
      ≡ Some (first_alike MT (get_or MT k none_mapping))
  first_kept k within =
      let x = get_or MT k none_mapping in
      let few = distinct same_mapping MT in
      let is = slice_get-get_or few (place_of same_mapping few x) none_mapping
      (place_below same_mapping few x (seen_at same_mapping mapping_laws.refl MT none_mapping k within)) in
      let there = sym (find_at (same_mapping x) few) ∙ find_distinct same_mapping mapping_laws x MT in
      is ∙ ap Some (sym (ap (λ o. unwrap_or o x) (sym there ∙ is)))

  alike_read : (id : ℕ) → mapping_placed r (listed_id mids id) ≡ option_map (first_alike MT) (mapping_placed p id)
  alike_read id =
      (λ j. place_read (table_M j) (listed_id (mids_are j) id))
      ∙ read_kept same_mapping mapping_laws.refl MT none_mapping (distinct same_mapping MT) (first_alike MT) refl first_kept id

  alike_self : (m : Mapping) → alike_mappings m m ≡ true
  alike_self m =
      (λ t. nat_eq_equiv.refl (m.limit - m.start) t && (nat_eq_equiv.refl m.offset t && int_same (mapping_key m).identity t))

  pub mappings_apart : IsDistinct equal_mapping (mappings_of r)
  mappings_apart =
      subst (IsDistinct equal_mapping) (sym table_M)
      (apart_finer same_mapping equal_mapping finer (distinct same_mapping MT) (distinct_apart same_mapping mapping_laws MT))
    where
      finer : (a b : MappingText) → same_mapping a b ≡ false → equal_mapping a b ≡ false
      finer a b other = by (equal_mapping a b) refl
        where
          by : (c : Bool) → equal_mapping a b ≡ c → c ≡ false
          by false is = refl
          by true is =
              let one = (mapping_decides a b).0 is in
              absurd (true≢false (sym (ap (same_mapping a) (sym one) ∙ mapping_laws.refl a) ∙ other))

  pub mappings_kept : AllByRecursion (MappingIn n) r.mapping
  mappings_kept = all-seen_after alike_mappings same_mapping (mapping_text p) (MappingIn n) agree_M [] p.mapping tt has.mappings

  -- Locations.
  abbrev FP : ℕ → Option FunctionText
  FP = function_placed p

  abbrev keys : List Location
  keys = distant_locations p

  abbrev key_text : Location → LocationText
  key_text k = record {
    mapping = mapping_placed r k.mapping_id;
    distance = k.address;
    lines = map (line_text FP) k.line;
    folded = k.folded;
  }

  abbrev Key : Location → Type 0
  Key = KeyIn (length r.mapping) (length p.function)

  key_is : (l : Location) → key_text (distant p.mapping (By mids) l) ≡ location_text (first_alike MT) FP (mapping_placed p) l
  key_is l = (λ j. record {
    mapping = alike_read l.mapping_id j;
    distance = less l.address (starts p p.mapping l.mapping_id j);
    lines = map (line_text FP) l.line;
    folded = l.folded;
  })

  keys_in : AllByRecursion Key keys
  keys_in =
      all_mapped Key (distant p.mapping (By mids)) (λ (l : Location). AllByRecursion (λ (line : Line). IsRef (length p.function) line.function_id) l.line)
      (λ l lines. record {
        mapping = ref_kept alike_mappings alike_self p.mapping no_mapping l.mapping_id;
        lines = lines;
        distance = less_below l.address (start_at p.mapping l.mapping_id);
      })
      p.location has.lines

  laws_M : IsEquivalence equal_mapping
  laws_M = decided equal_mapping mapping_decides

  laws_F : IsEquivalence same_function
  laws_F = decided same_function function_decides

  laws_L : IsEquivalence same_location
  laws_L = decided same_location location_decides

  long_M : length r.mapping ≡ length (mappings_of r)
  long_M = sym (length-map r.mapping (mapping_text r))

  long_F : length p.function ≡ length (functions_of p)
  long_F = sym (length-map p.function (function_text p))

  line_tells : (a b : Line) → IsRef (length p.function) a.function_id → IsRef (length p.function) b.function_id
      → same_line (line_text FP a) (line_text FP b) ≡ equal_line a b
  line_tells a b ra rb =
      (λ t. refs_tell same_function laws_F (functions_of p) none_text has.functions_apart a.function_id b.function_id
      (subst (λ k. IsRef k a.function_id) long_F ra) (subst (λ k. IsRef k b.function_id) long_F rb) t
      && (int_eq a.line b.line && int_eq a.column b.column))

  agree_L : (a b : Location) → Key a → Key b → same_location (key_text a) (key_text b) ≡ same_place a b
  agree_L a b in_a in_b =
      (λ t. refs_tell equal_mapping laws_M (mappings_of r) none_mapping mappings_apart a.mapping_id b.mapping_id
      (subst (λ k. IsRef k a.mapping_id) long_M in_a.mapping) (subst (λ k. IsRef k b.mapping_id) long_M in_b.mapping) t
      && (nat_eq a.address b.address
      && ((pointwise_as same_line equal_line (line_text FP) (λ line. line) (λ (line : Line). IsRef (length p.function) line.function_id) line_tells a.line b.line in_a.lines in_b.lines
      ∙ (λ j. pointwise equal_line (same_list a.line j) (same_list b.line j))) t && beq a.folded b.folded)))
    where
      same_list : (xs : List Line) → map (λ line. line) xs ≡ xs
      same_list [] = refl
      same_list (x ∷ xs) = ap (λ l. x ∷ l) (same_list xs)

  described : map key_text keys ≡ locations_of (first_alike MT) p
  described = maps_agree key_text (distant p.mapping (By mids)) (location_text (first_alike MT) FP (mapping_placed p)) key_is p.location

  abbrev kept : List Location
  kept = distinct same_place keys

  kept_in : AllByRecursion Key kept
  kept_in = all-seen_after same_place same_location key_text Key agree_L [] keys tt keys_in

  near_is : (k : Location) → Key k → location_text (λ m. m) FP (mapping_placed r) (near r.mapping k) ≡ key_text k
  near_is k is = (λ j. record {
    mapping = option_map-same (mapping_placed r k.mapping_id) j;
    distance = (ap (λ s. less (plus k.address (start_at r.mapping k.mapping_id)) s) (sym (starts r r.mapping k.mapping_id))
        ∙ less_plus k.address (start_at r.mapping k.mapping_id) is.distance) j;
    lines = map (line_text FP) k.line;
    folded = k.folded;
  })

  table_L : locations_of (λ m. m) r ≡ distinct same_location (locations_of (first_alike MT) p)
  table_L =
      map-map (location_text (λ m. m) FP (mapping_placed r)) (near r.mapping) kept
      ∙ map_as (λ k. location_text (λ m. m) FP (mapping_placed r) (near r.mapping k)) key_text Key near_is kept kept_in
      ∙ sym (distinct-map same_place same_location key_text Key agree_L keys keys_in) ∙ ap (distinct same_location) described

  abbrev lids : List ℕ
  lids = ids same_place keys

  lids_are : lids ≡ ids same_location (locations_of (first_alike MT) p)
  lids_are =
      ap (map (λ k. k + 1)) (sym (numbers-map same_place same_location key_text Key agree_L keys keys_in))
      ∙ ap (ids same_location) described

  refs_L : (id : ℕ) → location_placed (λ m. m) r (listed_id lids id) ≡ location_placed (first_alike MT) p id
  refs_L id =
      (λ j. unwrap_or (place_read (table_L j) (listed_id (lids_are j) id)) nowhere)
      ∙ ap (λ o. unwrap_or o nowhere) (read_same same_location laws_L.refl (locations_of (first_alike MT) p) nowhere location_decides id)

  -- The profile as it stands says what it said.
  pub places_plain : plain r ≡ gist p
  places_plain = (λ j. record {
    header = header_of p [];
    samples = maps_agree (sample_text (location_placed (λ m. m) r) (text_of r)) (renumbered_sample (by_locations lids)) (sample_text (location_placed (first_alike MT) p) (text_of p))
        (same_sample_text (by_locations lids) p r (λ i. refl) (location_placed (λ m. m) r) (location_placed (first_alike MT) p) refs_L) p.sample j;
    first_mapping = (ap (λ ms. slice_get ms 0) table_M ∙ first_distinct same_mapping MT) j;
  })

  pub locations_apart : IsDistinct same_location (locations_of (λ m. m) r)
  locations_apart = subst (IsDistinct same_location) (sym table_L) (distinct_apart same_location laws_L (locations_of (first_alike MT) p))

  pub locations_in : AllByRecursion (LocationIn (length r.mapping) (length r.function)) r.location
  locations_in =
      all_mapped (LocationIn (length r.mapping) (length r.function)) (near r.mapping) Key
      (λ k is. record { mapping = is.mapping; lines = is.lines; address = plus_below k.address (start_at r.mapping k.mapping_id) }) kept kept_in

  pub samples_in : AllByRecursion (SampleIn n (length r.location)) r.sample
  samples_in =
      all_mapped (SampleIn n (length r.location)) (renumbered_sample (by_locations lids)) (SampleIn n (length p.location))
      (λ s is. record {
        locations = all_mapped (Names (length r.location)) (listed_id lids) (Names (length p.location)) kept_id s.location_id is.locations;
        labels = all_mapped (LabelIn n) (renumbered_label (by_locations lids)) (LabelIn n)
            (λ l in_l. record { key = in_l.key; text = in_l.text; num_unit = in_l.num_unit }) s.label is.labels;
      })
      p.sample has.samples
    where
      kept_id : (id : ℕ) → Names (length p.location) id → Names (length r.location) (listed_id lids id)
      kept_id id is =
          subst (λ k. Names k (listed_id lids id)) (sym (length-map kept (near r.mapping)))
          (id_kept same_place place_self keys no_location id (subst (λ k. Names k id) (sym (length-map p.location (distant p.mapping (By mids)))) is))
