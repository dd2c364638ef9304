-- Names in the texts of other programs, which read some bytes as their own.
use Rattle.std.specs.Prelude.{ℕ, ◌==◌, ◌||◌, List, map, if◌then◌else◌}
use Rattle.pp_cells.specs.Cells.{carriage_return, line_feed}

-- a space, which stands in a path for the end of a line
abbrev pub space : ℕ
space = 32

-- a colon, which stands in a path for a `;`
abbrev pub colon : ℕ
colon = 58

-- a `;`, which sets the names of a path apart
abbrev pub semicolon : ℕ
semicolon = 59

-- what stands for the byte of a name in a path: `;` sets names apart there, and a line ends the path
abbrev pub frame_byte : ℕ → ℕ
frame_byte byte =
    if byte == semicolon then colon
    else (if byte == line_feed || byte == carriage_return then space else byte)

-- a name in a path
abbrev pub escaped_name : List ℕ → List ℕ
escaped_name name = map frame_byte name
