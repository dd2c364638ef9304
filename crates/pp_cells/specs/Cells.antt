-- The cells of tables for other programs, which read some bytes as their own.
use Rattle.std.specs.Prelude.{ℕ, ◌==◌, List, [], ◌∷◌, ◌++◌, length, codes, if◌then◌else◌}
use Rattle.std.specs.List.{flat_map}

-- a tab, which ends a cell
abbrev pub tab : ℕ
tab = 9

-- a line feed, which ends a row
abbrev pub line_feed : ℕ
line_feed = 10

-- a carriage return, which ends a line for some programs
abbrev pub carriage_return : ℕ
carriage_return = 13

-- a `\`, which stands in a cell before the letter of a byte
abbrev pub backslash : ℕ
backslash = 92

-- the letter that stands behind a `\` for a byte
abbrev pub escape : ℕ → List ℕ
escape letter = backslash ∷ letter ∷ []

-- what stands for a byte in a cell: a tab ends the cell there, and a line feed the row
abbrev pub cell_byte : ℕ → List ℕ
cell_byte byte =
    if byte == tab then escape 116
    else (if byte == line_feed then escape 110
    else (if byte == carriage_return then escape 114
    else (if byte == backslash then escape backslash else byte ∷ [])))

-- a text in a cell
abbrev pub cell_text : List ℕ → List ℕ
cell_text text = flat_map cell_byte text

-- the unit behind a `/`, where there is one
abbrev pub behind_slash : List ℕ → List ℕ
behind_slash unit = if length unit == 0 then [] else codes "/" ++ cell_text unit

-- a cell, and the tab that ends it
abbrev pub cell : List ℕ → List ℕ
cell text = text ++ tab ∷ []

-- a cell, and the line feed that ends its row
abbrev pub last_cell : List ℕ → List ℕ
last_cell text = text ++ line_feed ∷ []
