-- Where the regions of a CPU profile's text lie fits 64 bits.
use Rattle.std.proofs.Common.{◌≡◌, ℕ, ◌<◌, ◌^◌, Bool, true, false, List, subst}
use Rattle.std.specs.Prelude.{None, Some, if◌then◌else◌}
use Rattle.std.specs.List.{AllByRecursion, slice_split}
use Rattle.std.proofs.lemmas.Option.{none-some, same_Some}
use Rattle.pp_base.specs.Marks.{is_line_end}
use Rattle.pp_legacy.specs.Regions as regions
use Rattle.pp_legacy.specs.Regions.{Region, hex_in, range_in, region_in, is_code, code_in}
use Rattle.pp_merge.proofs.SettledLemmas.{all_any, all_some}
use Rattle.pp_load.proofs.StartLemmas.{hex_small, and_then_holds}

-- The region's addresses and its place in the file have 64 bits.
pub record IsSmall (region : Region) : Type 0 where
  pub start : region.start < 2 ^ 64
  pub limit : region.limit < 2 ^ 64
  pub offset : region.offset < 2 ^ 64

-- both ends of a range of addresses
abbrev IsSmallRange : (ℕ × ℕ × List ℕ) × List ℕ → Type 0
IsSmallRange range = (range.0.0 < 2 ^ 64) × (range.0.1 < 2 ^ 64)

range_small : (line : List ℕ) (range : (ℕ × ℕ × List ℕ) × List ℕ) → range_in line ≡ Some range → IsSmallRange range
unfolding range_in
range_small line =
    and_then_holds IsSmallRange _ (hex_in line) (λ start found.
    and_then_holds IsSmallRange _ (regions.behind_dash start.1) (λ dashed _.
    and_then_holds IsSmallRange _ (hex_in dashed) (λ limit also.
    and_then_holds IsSmallRange _ (regions.behind_gap limit.1) (λ gap _.
    and_then_holds IsSmallRange _ (regions.permissions_in gap) (λ permissions _ range is.
    subst IsSmallRange (same_Some _ _ is) (hex_small line start found, hex_small dashed limit also))))))

-- the place in the file
offset_small : (line : List ℕ) (source : ℕ × List ℕ) → regions.offset_and_path_in line ≡ Some source → source.0 < 2 ^ 64
unfolding regions.offset_and_path_in
offset_small line =
    let IsSmallPlace : ℕ × List ℕ → Type 0 = (λ r. r.0 < 2 ^ 64) in
    and_then_holds IsSmallPlace _ (regions.behind_gap line) (λ first_gap _.
    and_then_holds IsSmallPlace _ (hex_in first_gap) (λ offset found.
    and_then_holds IsSmallPlace _ (regions.behind_gap offset.1) (λ second_gap _.
    and_then_holds IsSmallPlace _ (regions.spaced_field_in second_gap) (λ device _.
    and_then_holds IsSmallPlace _ (regions.behind_gap device.1) (λ third_gap _.
    and_then_holds IsSmallPlace _ (regions.spaced_field_in third_gap) (λ inode _ source is.
    subst IsSmallPlace (same_Some _ _ is) (hex_small first_gap offset found)))))))

-- all of a region
region_small : (line : List ℕ) (region : Region) → region_in line ≡ Some region → IsSmall region
unfolding region_in
region_small line =
    and_then_holds IsSmall _ (range_in line) (λ range found.
    and_then_holds IsSmall _ (regions.offset_and_path_in range.1) (λ source also region is.
    let ends = range_small line range found in
    subst IsSmall (same_Some _ _ is) (record { start = ends.0; limit = ends.1; offset = offset_small range.1 source also })))

-- also of one of code
code_small : (line : List ℕ) (region : Region) → code_in line ≡ Some region → IsSmall region
code_small line = and_then_holds IsSmall _ (region_in line) (λ own found region is. by (is_code own) own found region is)
  where
    by : (code : Bool) (own : Region) → region_in line ≡ Some own → (region : Region) → (if code then Some own else None) ≡ Some region → IsSmall region
    by true own found region is = subst IsSmall (same_Some _ _ is) (region_small line own found)
    by false own found region is = absurd (none-some region is)

-- the regions of a text
pub regions_small : (text : List ℕ) → AllByRecursion IsSmall (regions.regions text)
unfolding regions.regions
regions_small text = all_some IsSmall code_in (slice_split is_line_end text) (all_any _ (λ line r is. code_small line r is) (slice_split is_line_end text))
