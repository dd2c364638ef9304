-- A cell, byte by byte.
use Rattle.std.proofs.Common.{◌≡◌, [], ◌∷◌, refl}
use Rattle.pp_cells.specs.Cells.{cell_text}

-- a tab, a backslash and a letter
escaped : cell_text (9 ∷ 92 ∷ 97 ∷ []) ≡ 92 ∷ 116 ∷ 92 ∷ 92 ∷ 97 ∷ []
escaped = refl
