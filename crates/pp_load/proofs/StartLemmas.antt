-- No mapping of a profile that was read, or merged, starts past 64 bits.
use Rattle.std.proofs.Common.{◌≡◌, ℕ, ◌+◌, ◌*◌, ◌<◌, ◌≤◌, ◌^◌, Bool, true, false, ◌&&◌, List, [], ◌∷◌, map, length, take, drop, refl, ap, ◌∙◌, subst, arith}
use Rattle.std.specs.Prelude.{Option, None, Some, Result, Ok, Err, nat_le, if◌then◌else◌}
use Rattle.std.specs.Char.{is_ascii_hexdigit}
use Rattle.std.specs.List.{AllByRecursion, enumerate_from, prefix_len, slice_split}
use Rattle.std.specs.Str.Parse.{digits_value}
use Rattle.std.proofs.Math.Nat.{pow-le-pow_right}
use Rattle.std.proofs.lemmas.Bool.{leb-true, and_parts}
use Rattle.std.proofs.lemmas.Int.Digits.{digits_value-lt}
use Rattle.std.proofs.lemmas.List.{length-take}
use Rattle.std.proofs.lemmas.Option.{none-some, same_Some}
use Rattle.pp_base.proofs.Lists.{all_by}
use Rattle.pp_model.specs.declared.profile.Mapping.{Mapping}
use Rattle.pp_model.specs.declared.profile.Profile.{Profile}
use Rattle.pp_check.specs.FirstFault.{first_fault}
use Rattle.pp_legacy.specs.Header.{header}
use Rattle.pp_legacy.specs.Legacy.{is_legacy, legacy}
use Rattle.pp_legacy.specs.Records.{entries_from}
use Rattle.pp_legacy.specs.Regions as regions
use Rattle.pp_legacy.specs.Regions.{Region, hex_in, range_in, region_in, is_code, code_in}
use Rattle.pp_legacy.specs.Steps.{Reading}
use Rattle.pp_legacy.specs.Tables.{mapping_of, legacy_profile}
use Rattle.pp_legacy.specs.Words.{whole_words}
use Rattle.pp_legacy.proofs.HexLemmas.{all_hex}
use Rattle.pp_tables.specs.declared.refusal.ReadRefusal.{ReadRefusal}
use Rattle.pp_tables.specs.declared.refusal.ReadRefusal.TheVariants as reading
use Rattle.pp_tables.specs.Read.{read}
use Rattle.pp_tables.proofs.Ranges.{read_fits}
use Rattle.pp_share.specs.Described.{mapping_text}
use Rattle.pp_merge.specs.Merge.{all_mappings, contents, merged}
use Rattle.pp_share.specs.Written.{written, written_mapping, mappings}
use Rattle.pp_share.proofs.NumberedLemmas.{all_mapped}
use Rattle.pp_merge.proofs.SettledLemmas.{all_any, all_flat, all_some, settled_contents}
use Rattle.pp_merge.proofs.WrittenAgain.{contents_again}
use Rattle.pp_load.specs.Steps.{◌>>=◌, Loads}
use Rattle.pp_load.specs.Decode.{legacy_given, tables_given, checked, tables_of, decoded}
use Rattle.pp_load.specs.Joining.{HasStarts}
use Rattle.pp_load.proofs.KindLemmas.{nothing_found}
use Rattle.pp_base.specs.Marks.{is_line_end}
use Rattle.pp_base.specs.Results as results

-- a number of at most 16 hexadecimal digits has 64 bits
pub hex_small : (line : List ℕ) (part : ℕ × List ℕ) → hex_in line ≡ Some part → part.0 < 2 ^ 64
unfolding hex_in
hex_small line part is = by (nat_le 1 len && nat_le len 16) refl is
  where
    len : ℕ
    len = prefix_len is_ascii_hexdigit line

    by : (few : Bool) → (nat_le 1 (prefix_len is_ascii_hexdigit line) && nat_le (prefix_len is_ascii_hexdigit line) 16) ≡ few
        → (if few then Some (digits_value 16 (take (prefix_len is_ascii_hexdigit line) line), drop (prefix_len is_ascii_hexdigit line) line) else None) ≡ Some part → part.0 < 2 ^ 64
    by true few h =
        let digits = take (prefix_len is_ascii_hexdigit line) line in
        let most : prefix_len is_ascii_hexdigit line ≤ 16 = leb-true (prefix_len is_ascii_hexdigit line) 16 (and_parts _ _ few).1 in
        let size : length digits ≤ 16 = omega (arith, most, length-take (prefix_len is_ascii_hexdigit line) line) in
        let value = digits_value-lt 16 digits (all_hex line) in
        let power : 16 ^ length digits ≤ 16 ^ 16 = pow-le-pow_right (omega arith) size in
        let small : digits_value 16 digits < 2 ^ 64 = omega (arith, value, power) in
        subst (λ (q : ℕ × List ℕ). q.0 < 2 ^ 64) (same_Some _ _ h) small
    by false few h = absurd (none-some part h)

-- what holds of each end of what goes on holds of what was found at last
pub and_then_holds : {A B : Type 0} (P : B → Type 0) (f : A → Option B) (o : Option A) → ((x : A) → o ≡ Some x → (y : B) → f x ≡ Some y → P y)
    → (y : B) → regions.◌>>=◌ o f ≡ Some y → P y
and_then_holds P f None each y is = absurd (none-some y is)
and_then_holds P f (Some x) each y is = each x refl y is

-- a range of addresses starts there
range_small : (line : List ℕ) (range : (ℕ × ℕ × List ℕ) × List ℕ) → range_in line ≡ Some range → range.0.0 < 2 ^ 64
unfolding range_in
range_small line =
    let IsSmall : (ℕ × ℕ × List ℕ) × List ℕ → Type 0 = (λ r. r.0.0 < 2 ^ 64) in
    and_then_holds IsSmall _ (hex_in line) (λ start found.
    and_then_holds IsSmall _ (regions.behind_dash start.1) (λ dashed _.
    and_then_holds IsSmall _ (hex_in dashed) (λ limit _.
    and_then_holds IsSmall _ (regions.behind_gap limit.1) (λ gap _.
    and_then_holds IsSmall _ (regions.permissions_in gap) (λ permissions _ range is.
    subst IsSmall (same_Some _ _ is) (hex_small line start found))))))

-- and so does a region
region_small : (line : List ℕ) (region : Region) → region_in line ≡ Some region → region.start < 2 ^ 64
unfolding region_in
region_small line =
    let IsSmall : Region → Type 0 = (λ r. r.start < 2 ^ 64) in
    and_then_holds IsSmall _ (range_in line) (λ range found.
    and_then_holds IsSmall _ (regions.offset_and_path_in range.1) (λ source _ region is.
    subst IsSmall (same_Some _ _ is) (range_small line range found)))

-- also one of code
code_small : (line : List ℕ) (region : Region) → code_in line ≡ Some region → region.start < 2 ^ 64
code_small line = and_then_holds (λ (r : Region). r.start < 2 ^ 64) _ (region_in line) (λ own found region is. by (is_code own) own found region is)
  where
    by : (code : Bool) (own : Region) → region_in line ≡ Some own → (region : Region) → (if code then Some own else None) ≡ Some region → region.start < 2 ^ 64
    by true own found region is = subst (λ (r : Region). r.start < 2 ^ 64) (same_Some _ _ is) (region_small line own found)
    by false own found region is = absurd (none-some region is)

-- the regions of a text
regions_small : (text : List ℕ) → AllByRecursion (λ (r : Region). r.start < 2 ^ 64) (regions.regions text)
unfolding regions.regions
regions_small text = all_some (λ (r : Region). r.start < 2 ^ 64) code_in (slice_split is_line_end text) (all_any _ (λ line r is. code_small line r is) (slice_split is_line_end text))

-- the mappings of regions
mappings_small : (n : ℕ) (list : List Region) → AllByRecursion (λ (r : Region). r.start < 2 ^ 64) list
    → AllByRecursion (λ (m : Mapping). m.start < 2 ^ 64) (map (λ p. mapping_of p.0 p.1) (enumerate_from n list))
mappings_small n [] all = tt
mappings_small n (r ∷ rs) all = (all.0, mappings_small (n + 1) rs all.1)

-- what is told of a reading that gave something
pub reading_some : {A B : Type 0} (f : A → Reading B) (r : Reading A) (y : B) → results.◌>>=◌ r f ≡ Ok y → (x : A) × (f x ≡ Ok y)
reading_some f (Ok x) y is = (x, is)
reading_some f (Err e) y is = absurd cc

pub same_Ok : {A E : Type 0} (x y : A) → ◌≡◌ {A = Result A E} (Ok x) (Ok y) → x ≡ y
same_Ok x y is = (cc)

-- a profile of gperftools
legacy_starts : (bytes : List ℕ) (p : Profile) → legacy bytes ≡ Ok p → HasStarts p
unfolding legacy legacy_profile
legacy_starts bytes p is =
    let (head, rest) = reading_some _ (header (whole_words bytes)) p is in
    let (found, rest) = reading_some _ (entries_from (whole_words bytes) head.nanos (record { word = head.first; counts = 0 })) p rest in
    subst HasStarts (same_Ok _ _ rest) (mappings_small 0 _ (regions_small (drop (8 * found.text) bytes)))

-- a profile of any bytes
decoded_starts : (source : ℕ) (bytes : List ℕ) (p : Profile) → decoded source bytes ≡ Ok p → HasStarts p
unfolding decoded tables_of ◌>>=◌
decoded_starts source bytes p is = by (is_legacy bytes) is
  where
    of_legacy : (r : Reading Profile) → legacy bytes ≡ r → legacy_given source r ≡ Ok p → HasStarts p
    of_legacy (Ok q) found h = legacy_starts bytes p (found ∙ (cc))
    of_legacy (Err e) found h = absurd cc

    of_read : (r : Result Profile ReadRefusal) → read bytes ≡ r → (tables_given source r >>= checked source) ≡ Ok p → HasStarts p
    of_read (Ok q) found h =
        let same = (nothing_found (first_fault q) _ q p h).1 in
        all_by _ _ (λ m fits. fits.start) p.mapping (read_fits bytes p (found ∙ ap (λ x. Ok x) same)).mapping
    of_read (Err reading.Empty) found h = absurd cc
    of_read (Err reading.Compressed) found h = absurd cc
    of_read (Err (reading.Wire fault)) found h = absurd cc
    of_read (Err reading.Memory) found h = absurd cc

    by : (b : Bool) → (if b then legacy_given source (legacy bytes) else (tables_given source (read bytes) >>= checked source)) ≡ Ok p → HasStarts p
    by true h = of_legacy (legacy bytes) refl h
    by false h = of_read (read bytes) refl h

-- the mappings of what was loaded start within 64 bits
pub decoded_has : (source : ℕ) (bytes : List ℕ) (p : Profile) → Loads (decoded source bytes) (Ok p) → HasStarts p
unfolding Loads
decoded_has source bytes p is = decoded_starts source bytes p is

module _ (p : Profile) (ps : List Profile) (starts : AllByRecursion HasStarts (p ∷ ps)) where
  all_start : AllByRecursion (λ m. m.start < 2 ^ 64) (all_mappings (p ∷ ps))
  all_start =
      all_flat (λ m. m.start < 2 ^ 64) (λ q. map (mapping_text q) q.mapping) (p ∷ ps)
      (all_by _ _ (λ q own. all_mapped (λ m. m.start < 2 ^ 64) (mapping_text q) q.mapping own) (p ∷ ps) starts)

  -- what profiles are merged to
  pub merged_starts : HasStarts (merged p ps)
  merged_starts =
      all_mapped (λ (m : Mapping). m.start < 2 ^ 64) (written_mapping (contents p ps)) (mappings (contents p ps)) (settled_contents p ps all_start).starts

  -- merged alone it stays as it is
  pub merged_alone : merged (merged p ps) [] ≡ merged p ps
  merged_alone = ap written (contents_again (contents p ps) (settled_contents p ps all_start))
