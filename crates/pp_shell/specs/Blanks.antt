-- Spaces and tabs.
use Rattle.std.specs.Prelude.{ℕ, ◌==◌, Bool, ◌||◌, List, [], ◌∷◌, length, nat_lt, filter, if◌then◌else◌}
use Rattle.std.specs.List.{slice_split}
use Rattle.pp_options.specs.Ends.{without_end}

-- a space or a tab
abbrev pub is_blank : ℕ → Bool
is_blank byte = byte == 32 || byte == 9

-- the text from the first byte that is no blank
abbrev pub without_front : List ℕ → List ℕ
without_front [] = []
without_front (byte ∷ bytes) = if is_blank byte then without_front bytes else byte ∷ bytes

-- the text without the blanks at both ends
abbrev pub trimmed : List ℕ → List ℕ
trimmed text = without_end is_blank (without_front text)

-- the text isn't empty
abbrev pub is_word : List ℕ → Bool
is_word text = nat_lt 0 (length text)

-- the words of a text, parted by blanks
abbrev pub words_in : List ℕ → List (List ℕ)
words_in text = filter is_word (slice_split is_blank text)
