-- A whole file: its header, its entries, and the profile of both with the regions.
use Rattle.std.proofs.Common.{◌≡◌, ℕ, zero, suc, ◌+◌, ◌-◌, ◌*◌, ◌/◌, ◌<◌, ◌≤◌, Bool, true, false, cond, List, [], ◌∷◌, ◌++◌, length, map, take, drop, refl, sym, ap, ◌∙◌, arith}
use Rattle.std.specs.Prelude.{Option, Some, None, Ok, Err, nat_eq, count_by}
use Rattle.std.specs.List.{cons_option, filter_map, flat_map, slice_split, enumerate_from}
use Rattle.std.proofs.lemmas.Cmp.{nat_eq_equiv}
use Rattle.std.proofs.lemmas.List.{length-map, length-append, length-drop}
use Rattle.std.proofs.lemmas.List.FromFn.{length-enumerate_from}
use Rattle.std.proofs.lemmas.List.Splits.{length-slice_split}
use Rattle.std.proofs.lemmas.List.Sums.{count_by-le-length}
use Rattle.pp_legacy.specs.declared.fault.LegacyFault.{LegacyFault}
use Rattle.pp_legacy.specs.declared.header.Header.{Header}
use Rattle.pp_legacy.specs.Words.{whole_words}
use Rattle.pp_legacy.specs.Header.{header}
use Rattle.pp_legacy.specs.Records.{StackRecord, Entries, entries_from}
use Rattle.pp_legacy.specs.Regions.{Region, code_in, regions}
use Rattle.pp_legacy.specs.Tables.{addresses_of, entry_sample, mapping_of, numbered_mappings, location_of, numbered_locations, fixed_texts, texts_of, legacy_profile}
use Rattle.pp_legacy.specs.Sizes.{HasFew}
use Rattle.pp_legacy.specs.Legacy.{legacy}
use Rattle.pp_model.proofs.FirstSightLemmas.{length-distinct}
use Rattle.pp_base.specs.Words.{is_line_end}
use Rattle.pp_model.specs.Words.{HasAtMost}

module _ (bytes : List ℕ) where
  -- a fault of the header
  pub header_fails : (fault : LegacyFault) → header (whole_words bytes) ≡ Err fault → legacy bytes ≡ Err fault
  unfolding legacy
  header_fails fault is = rw is refl

  module _ (head : Header) (header_is : header (whole_words bytes) ≡ Ok head) where
    -- a fault of the entries
    pub entries_fail : (fault : LegacyFault) → entries_from (whole_words bytes) head.nanos (record { word = head.first; counts = 0 }) ≡ Err fault
        → legacy bytes ≡ Err fault
    unfolding legacy
    entries_fail fault is = rw (header_is, is) refl

    -- the profile
    pub profile_is : (found : Entries) → entries_from (whole_words bytes) head.nanos (record { word = head.first; counts = 0 }) ≡ Ok found
        → legacy bytes ≡ Ok (legacy_profile head.nanos found.entries (regions (drop (8 * found.text) bytes)))
    unfolding legacy
    profile_is found is = rw (header_is, is) refl

-- no more are kept than there are
kept_len : {X Y : Type 0} (h : X → Option Y) (xs : List X) → length (filter_map h xs) ≤ length xs
kept_len h [] = omega arith
kept_len h (x ∷ xs) = by (h x) (filter_map h xs) (kept_len h xs)
  where
    by : {Y : Type 0} (o : Option Y) (ys : List Y) → length ys ≤ length xs → length (cons_option o ys) ≤ length (x ∷ xs)
    by None ys below = omega arith
    by (Some y) ys below = omega arith

-- a text has no more regions than bytes, and one
regions_len : (text : List ℕ) → length (regions text) ≤ length text + 1
unfolding regions
regions_len text =
    omega (arith, kept_len code_in (slice_split is_line_end text), length-slice_split is_line_end text, count_by-le-length is_line_end text)

-- the tables have no more entries than the file has bytes
pub few_entries : (nanos : ℕ) (entries : List StackRecord) (text : ℕ) (bytes : List ℕ) → HasFew text entries → 3 ≤ text → 8 * text ≤ length bytes
    → HasAtMost (length bytes) (legacy_profile nanos entries (regions (drop (8 * text) bytes)))
unfolding legacy_profile
few_entries nanos entries text bytes few behind within =
    let found = regions (drop (8 * text) bytes) in
    let regions_few : length found + 8 * text ≤ length bytes + 1 = omega (arith, regions_len (drop (8 * text) bytes), length-drop (8 * text) bytes) in
    let numbered_len = length-map (enumerate_from 0 found) (λ p. mapping_of p.0 p.1) in
    record {
      sample_types = omega arith;
      samples = omega (arith, few.entries_len, length-map entries (entry_sample (addresses_of entries)));
      mappings = omega (arith, regions_few, numbered_len, length-enumerate_from 0 found);
      locations =
          omega (
            arith,
            few.addresses_len,
            length-distinct nat_eq nat_eq_equiv (flat_map (λ (e : StackRecord). e.stack) entries),
            length-map (enumerate_from 0 (addresses_of entries)) (λ p. location_of (numbered_mappings found) p.0 p.1),
            length-enumerate_from 0 (addresses_of entries),
          );
      functions = omega arith;
      texts = omega (arith, regions_few, length-append fixed_texts (map (λ (r : Region). r.path) found), length-map found (λ (r : Region). r.path));
      comments = omega arith;
    }
