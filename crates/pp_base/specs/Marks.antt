-- Bytes that part a text, and the text without bytes.
use Rattle.std.specs.Prelude.{ℕ, Bool, true, false, ◌==◌, List, [], ◌∷◌}

-- a line ends at the byte 0a
abbrev pub is_line_end : ℕ → Bool
is_line_end byte = byte == 10

-- an equals sign parts a name from the rest
abbrev pub is_equals : ℕ → Bool
is_equals byte = byte == 61

-- whether nothing stands in the text
abbrev pub is_empty_text : List ℕ → Bool
is_empty_text [] = true
is_empty_text (_ ∷ _) = false
