-- What samples come to in a routine and in a line.
use Rattle.std.specs.Prelude.{ℕ, pos, false, List, map}
use Rattle.pp_model.specs.declared.grouping.Grain.TheVariants.{FileFunctions, Lines}
use Rattle.pp_model.specs.FrameTexts.{Written}
use Rattle.pp_grain.specs.Keys.{kept_by, key_cmp}
use Rattle.pp_count.specs.Sums.{Seen, renamed, flat, cum}
use Rattle.pp_source.specs.declared.amounts.Amounts.{Amounts}

-- the function and the file of a frame: the routine that it belongs to
abbrev pub routine_of : Written → Written
routine_of w = kept_by FileFunctions false w

-- the function, the file and the line of a frame
abbrev pub source_line : Written → Written
source_line w = kept_by Lines false w

-- the line of this number in the function and the file of a frame
abbrev pub line_numbered : Written → ℕ → Written
line_numbered w number = source_line (record w { line = pos number })

-- the flat and the cum of a key
abbrev pub amounts_of : List (Seen Written) → Written → Amounts
amounts_of samples k = record { flat = flat key_cmp samples k; cum = cum key_cmp samples k }

-- What the samples come to in the routine of a frame.
abbrev pub routine_amounts : List (Seen Written) → Written → Amounts
routine_amounts samples w = amounts_of (map (renamed routine_of) samples) (routine_of w)

-- What the samples come to in the line of this number of its function and file.
abbrev pub line_amounts : List (Seen Written) → Written → ℕ → Amounts
line_amounts samples w number = amounts_of (map (renamed source_line) samples) (line_numbered w number)
