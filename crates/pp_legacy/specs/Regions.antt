-- The text behind the trailer (gperftools, "CPU Profile format", "Text list of mapped
-- objects"; proc(5), /proc/pid/maps): the mapped regions of the process, one a line, as
-- in `00400000-00500000 r-xp 00000000 08:01 131    /bin/prog`.
use Rattle.std.specs.Prelude.{ℕ, ◌==◌, Bool, ◌&&◌, not, List, length, take, drop, slice_index, nat_lt, nat_le, Option, Some, None, if◌then◌else◌}
use Rattle.std.specs.List.{prefix_len, slice_split, filter_map}
use Rattle.std.specs.Char.{is_ascii_hexdigit}
use Rattle.std.specs.Str.Parse.{digits_value}
use Rattle.std.specs.Option.{option_and_then}
use Rattle.pp_base.specs.Words.{is_line_end}

-- a part of a line, and what stands behind it
abbrev pub Part : Type 0 → Type 0
Part A = Option (A × List ℕ)

-- what was found goes on
infixl 10 ◌>>=◌
abbrev pub ◌>>=◌ : {A B : Type 0} → Option A → (A → Option B) → Option B
o >>= f = option_and_then f o

-- a space, by which fields are set apart
abbrev pub is_space : ℕ → Bool
is_space b = b == 32

-- the hexadecimal number at the front, of 1 to 16 digits in either case
unfoldable pub hex_in : List ℕ → Part ℕ
hex_in line =
    let digits = prefix_len is_ascii_hexdigit line in
    if nat_le 1 digits && nat_le digits 16
    then Some (digits_value 16 (take digits line), drop digits line) else None

-- what stands behind a dash
unfoldable pub behind_dash : List ℕ → Option (List ℕ)
behind_dash line = if slice_index line 0 == 45 then Some (drop 1 line) else None

-- what stands behind spaces
abbrev pub behind_spaces : List ℕ → List ℕ
behind_spaces line = drop (prefix_len is_space line) line

-- what stands behind one space or more
unfoldable pub behind_gap : List ℕ → Option (List ℕ)
behind_gap line = if slice_index line 0 == 32 then Some (behind_spaces line) else None

-- the bytes at the front up to a space or the end, of which there is one at least
unfoldable pub spaced_field_in : List ℕ → Part (List ℕ)
spaced_field_in line =
    let bytes = prefix_len (λ b. not (is_space b)) line in
    if nat_le 1 bytes then Some (take bytes line, drop bytes line) else None

-- a field of four bytes
unfoldable pub permissions_in : List ℕ → Part (List ℕ)
permissions_in line = do
  field ← spaced_field_in line
  if length field.0 == 4 then Some field else None

-- A mapped region: its first address and the first behind it, what may be done there, the place in the file, and the
-- path of the file.
pub record Region : Type 0 where
  pub start : ℕ
  pub limit : ℕ
  pub permissions : List ℕ
  pub offset : ℕ
  pub path : List ℕ

-- the addresses and the permissions at the front of a line
unfoldable pub range_in : List ℕ → Part (ℕ × ℕ × List ℕ)
range_in line = do
  start ← hex_in line
  dashed ← behind_dash start.1
  limit ← hex_in dashed
  gap ← behind_gap limit.1
  permissions ← permissions_in gap
  Some ((start.0, limit.0, permissions.0), permissions.1)

-- the place in the file and the path: between them stand a device and an inode, which may be any fields
unfoldable pub offset_and_path_in : List ℕ → Option (ℕ × List ℕ)
offset_and_path_in line = do
  first_gap ← behind_gap line
  offset ← hex_in first_gap
  second_gap ← behind_gap offset.1
  device ← spaced_field_in second_gap
  third_gap ← behind_gap device.1
  inode ← spaced_field_in third_gap
  Some (offset.0, behind_spaces inode.1)

-- the region that a line tells of
unfoldable pub region_in : List ℕ → Option Region
region_in line = do
  range ← range_in line
  source ← offset_and_path_in range.1
  Some (record {
    start = range.0.0;
    limit = range.0.1;
    permissions = range.0.2;
    offset = source.0;
    path = source.1;
  })

-- the region has addresses, and code there may run
abbrev pub is_code : Region → Bool
is_code region = slice_index region.permissions 2 == 120 && nat_lt region.start region.limit

-- the region of code that a line tells of
abbrev pub code_in : List ℕ → Option Region
code_in line = do
  region ← region_in line
  if is_code region then Some region else None

-- the regions of code that a text tells of, in order; lines of another kind are passed over
unfoldable pub regions : List ℕ → List Region
regions text = filter_map code_in (slice_split is_line_end text)
