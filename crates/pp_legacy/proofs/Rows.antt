-- Files whose profile or fault is known, computed from the definitions.
use Rattle.std.proofs.Common.{◌≡◌, ℕ, List, [], ◌∷◌, ◌++◌, Bool, true, false, map, take, replicate, pos, refl, codes}
use Rattle.std.specs.Prelude.{Option, Some, None, Ok, Err, is_some}
use Rattle.std.specs.Result.{result_err}
use Rattle.std.specs.Int.{w64, to_le_bytes}
use Rattle.std.specs.List.{flat_map, list_all, list_any}
use Rattle.pp_legacy.specs.declared.fault.LegacyFault.{LegacyFault}
use Rattle.pp_legacy.specs.declared.fault.LegacyKind.TheVariants.{Truncated, BadHeader, BadRecord, TooLarge}
use Rattle.pp_legacy.specs.Steps.{fault_at}
use Rattle.pp_legacy.specs.Words.{whole_words}
use Rattle.pp_legacy.specs.Header.{header}
use Rattle.pp_legacy.specs.Records.{record_at, entries_in, entries_from}
use Rattle.pp_legacy.specs.Regions.{hex_in, behind_dash, behind_gap, spaced_field_in, permissions_in, range_in, offset_and_path_in, region_in, code_in, regions}
use Rattle.pp_legacy.specs.Tables.{legacy_profile, samples_type, cpu_type}
use Rattle.pp_legacy.specs.Legacy.{legacy}

-- a file of words and a text
file : List ℕ → List ℕ → List ℕ
file ws text = flat_map (to_le_bytes w64) ws ++ text

-- sixteen zeros
zeros : legacy (replicate 16 0) ≡ Err (fault_at BadHeader 1)
unfolding legacy whole_words header
zeros = refl

-- two stacks of a program, and its one region of code
prog_words : List ℕ
prog_words = 0 ∷ 3 ∷ 0 ∷ 10000 ∷ 0 ∷ 2 ∷ 2 ∷ 4198416 ∷ 4202528 ∷ 1 ∷ 1 ∷ 4198416 ∷ 0 ∷ 1 ∷ 0 ∷ []

prog_text : List ℕ
prog_text = codes "00400000-00500000 r-xp 00000000 08:01 131 /bin/prog" ++ 10 ∷ []

-- the file ends within its header
cut_short : legacy (take 24 (file prog_words prog_text)) ≡ Err (fault_at Truncated 3)
unfolding legacy whole_words header file prog_words prog_text
cut_short = refl

prog_is_spelled : whole_words (file prog_words (codes "1234567")) ≡ prog_words
unfolding whole_words file prog_words
prog_is_spelled = refl

prog_header : header prog_words ≡ Ok (record { nanos = 10000000; first = 5 })
unfolding header prog_words
prog_header = refl

prog_entries :
    entries_from prog_words 10000000 (record { word = 5; counts = 0 })
    ≡ Ok (record {
      entries =
          record { count = pos 2; nanos = pos 20000000; stack = 4198416 ∷ 4202528 ∷ [] }
          ∷ record { count = pos 1; nanos = pos 10000000; stack = 4198416 ∷ [] } ∷ [];
      text = 15;
    })
unfolding prog_words entries_in record_at
prog_entries = refl

prog_regions :
    regions prog_text
    ≡ record { start = 4194304; limit = 5242880; permissions = codes "r-xp"; offset = 0; path = codes "/bin/prog" } ∷ []
unfolding prog_text regions region_in range_in offset_and_path_in hex_in behind_dash behind_gap spaced_field_in permissions_in
prog_regions = refl

-- the whole of it
prog :
    legacy (file prog_words prog_text)
    ≡ Ok (record {
      sample_type = samples_type ∷ cpu_type ∷ [];
      sample =
          record { location_id = 1 ∷ 2 ∷ []; value = pos 2 ∷ pos 20000000 ∷ []; label = [] }
          ∷ record { location_id = 1 ∷ []; value = pos 1 ∷ pos 10000000 ∷ []; label = [] } ∷ [];
      mapping =
          record {
            id = 1;
            start = 4194304;
            limit = 5242880;
            offset = 0;
            file = pos 5;
            build_id = pos 0;
            has_functions = false;
            has_filenames = false;
            has_line_numbers = false;
            has_inline_frames = false;
          }
          ∷ [];
      location =
          record { id = 1; mapping_id = 1; address = 4198416; line = []; folded = false }
          ∷ record { id = 2; mapping_id = 1; address = 4202528; line = []; folded = false } ∷ [];
      function = [];
      text = [] ∷ codes "samples" ∷ codes "count" ∷ codes "cpu" ∷ codes "nanoseconds" ∷ codes "/bin/prog" ∷ [];
      drop_frames = pos 0;
      keep_frames = pos 0;
      time_nanos = pos 0;
      duration_nanos = pos 0;
      period_type = record { kind = pos 3; unit = pos 4 };
      period = pos 10000000;
      comment = [];
      default_sample_type = pos 0;
      doc_url = pos 0;
    })
unfolding
    legacy whole_words file prog_words prog_text header entries_in record_at regions region_in range_in offset_and_path_in hex_in behind_dash behind_gap spaced_field_in
    permissions_in legacy_profile
prog = refl

-- the fault of a file of words, where it has one
fault_of : List ℕ → Option LegacyFault
fault_of ws = result_err (legacy (file ws []))

-- each word of the header wrong in turn, or not there
headers :
    map fault_of (
    (0 ∷ 2 ∷ 0 ∷ 10000 ∷ 0 ∷ [])
    ∷ (0 ∷ 3 ∷ [])
    ∷ (0 ∷ 3 ∷ 1 ∷ 10000 ∷ 0 ∷ [])
    ∷ (0 ∷ 3 ∷ 0 ∷ 0 ∷ 0 ∷ [])
    ∷ (0 ∷ 3 ∷ 0 ∷ 9223372036854776 ∷ 0 ∷ [])
    ∷ (0 ∷ 3 ∷ 0 ∷ 18446744073709551615 ∷ 0 ∷ [])
    ∷ (0 ∷ 3 ∷ 0 ∷ 10000 ∷ [])
    ∷ (0 ∷ 3 ∷ 0 ∷ 10000 ∷ 1 ∷ [])
    ∷ (0 ∷ 4 ∷ 0 ∷ 10000 ∷ 0 ∷ [])
    ∷ (0 ∷ 9223372036854775808 ∷ 0 ∷ 10000 ∷ 0 ∷ 0 ∷ 1 ∷ 0 ∷ [])
    ∷ (0 ∷ 18446744073709551615 ∷ 0 ∷ 10000 ∷ 0 ∷ 0 ∷ 1 ∷ 0 ∷ []) ∷ [])
    ≡ map Some (
    fault_at BadHeader 1 ∷ fault_at Truncated 2 ∷ fault_at BadHeader 2 ∷ fault_at BadHeader 3 ∷ fault_at BadHeader 3 ∷ fault_at BadHeader 3
    ∷ fault_at Truncated 4 ∷ fault_at BadHeader 4 ∷ fault_at Truncated 5 ∷ fault_at Truncated 8 ∷ fault_at Truncated 8 ∷ [])
unfolding fault_of legacy whole_words header file
headers = refl

-- what follows a header of five words, as a fault
behind_header : List ℕ → Option LegacyFault
behind_header ws = fault_of (0 ∷ 3 ∷ 0 ∷ 10000 ∷ 0 ∷ ws)

-- each part of a record wrong in turn, or not there
records :
    map behind_header (
    []
    ∷ (0 ∷ [])
    ∷ (0 ∷ 1 ∷ [])
    ∷ (0 ∷ 2 ∷ 0 ∷ [])
    ∷ (0 ∷ 0 ∷ 0 ∷ [])
    ∷ (0 ∷ 1 ∷ 1 ∷ [])
    ∷ (1 ∷ 0 ∷ 0 ∷ [])
    ∷ (1 ∷ 2 ∷ 7 ∷ [])
    ∷ (1 ∷ 18446744073709551615 ∷ 7 ∷ [])
    ∷ (18446744073709551615 ∷ 1 ∷ [])
    ∷ (1 ∷ 1 ∷ 7 ∷ 922337203686 ∷ 1 ∷ [])
    ∷ (1 ∷ 1 ∷ 7 ∷ 922337203684 ∷ 1 ∷ []) ∷ [])
    ≡ map Some (
    fault_at Truncated 5 ∷ fault_at Truncated 6 ∷ fault_at Truncated 7 ∷ fault_at BadRecord 5 ∷ fault_at BadRecord 5 ∷ fault_at BadRecord 5
    ∷ fault_at BadRecord 6 ∷ fault_at Truncated 8 ∷ fault_at Truncated 8 ∷ fault_at TooLarge 5 ∷ fault_at TooLarge 8 ∷ fault_at Truncated 10 ∷ [])
unfolding behind_header fault_of legacy whole_words header file entries_in record_at
records = refl

-- whether a line tells of a region of code
tells : List ℕ → Bool
tells line = is_some (code_in line)

lines_that_tell :
    list_all tells (
    codes "1000-2000 r-xp 0 0 0"
    ∷ codes "1000-2000  r-xp  0  0  0  /a b "
    ∷ codes "1000-FFFFffffFFFFffff ??x? aF0 : :"
    ∷ codes "1000-2000 r-xp 0 0 0 " ∷ [])
    ≡ true
unfolding tells region_in range_in offset_and_path_in hex_in behind_dash behind_gap spaced_field_in permissions_in
lines_that_tell = refl

lines_passed_over :
    list_any tells (
    []
    ∷ codes "1000-1000 r-xp 0 0 0"
    ∷ codes "2000-1000 r-xp 0 0 0"
    ∷ codes "1000-2000 r--p 0 0 0"
    ∷ codes "1000-2000 rxwp 0 0 0"
    ∷ codes "1000-10000000000000000 r-xp 0 0 0"
    ∷ codes "00000000000001000-2000 r-xp 0 0 0"
    ∷ codes " 1000-2000 r-xp 0 0 0"
    ∷ codes "-2000 r-xp 0 0 0"
    ∷ codes "1000 -2000 r-xp 0 0 0"
    ∷ codes "1000-2000r-xp 0 0 0"
    ∷ codes "1000-2000 r-x 0 0 0"
    ∷ codes "1000-2000 r-xpp 0 0 0"
    ∷ codes "1000-2000 r-xp 0 0"
    ∷ codes "1000-2000 r-xp 0 0 "
    ∷ codes "1000-2000 r-xp g 0 0"
    ∷ codes "1000-2000 r-xp 0g 0 0" ∷ [])
    ≡ false
unfolding tells region_in range_in offset_and_path_in hex_in behind_dash behind_gap spaced_field_in permissions_in
lines_passed_over = refl
