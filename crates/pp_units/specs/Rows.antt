-- What the lines of several reports have in common: values and percentages in their
-- columns, and the lines that say what is shown and what is not.
use Rattle.std.specs.Prelude.{ℕ, ◌==◌, nat_lt, ℤ, pos, List, [], ◌++◌, codes, decimal, if◌then◌else◌}
use Rattle.pp_units.specs.Shown.{Shown}
use Rattle.pp_units.specs.Numbers.{value_text, percent_text, right_text}

-- the text, and then the number's decimal digits
abbrev pub numbered : List ℕ → ℕ → List ℕ
numbered front number = front ++ decimal number

-- a value at the right of ten places
abbrev pub value_column : Shown → ℤ → List ℕ
value_column unit value = right_text 10 (value_text value unit)

-- a percentage of the total at the right of eight places
abbrev pub percent_column : ℕ → ℤ → List ℕ
percent_column total value = right_text 8 (percent_text value total)

-- a value and its percentage
abbrev pub pair_text : Shown → ℕ → ℤ → List ℕ
pair_text unit total value = value_column unit value ++ codes " " ++ percent_column total value

-- the percentage between two pairs
abbrev pub between_text : ℕ → ℤ → List ℕ
between_text total sum = codes " " ++ percent_column total sum ++ codes " "

-- The five columns of a row: flat, flat%, sum%, cum and cum%, where the flats up to it have this sum.
abbrev pub columns_text : Shown → ℕ → ℤ → ℤ → ℤ → List ℕ
columns_text unit total flat sum cum =
    pair_text unit total flat ++ between_text total sum ++ pair_text unit total cum

-- a name at the end of its row
abbrev pub name_end : List ℕ → List ℕ
name_end name = codes "  " ++ name ++ codes "\n"

-- what the nodes that are shown account for, where their flats have this sum
abbrev pub showing_line : Shown → ℕ → ℤ → List ℕ
showing_line unit total sum =
    (codes "Showing nodes accounting for " ++ value_text sum unit ++ codes ", ")
    ++ percent_text sum total
    ++ (codes " of " ++ value_text (pos total) unit ++ codes " total\n")

-- how many there are too light to be shown, if any
abbrev pub dropped_line : List ℕ → ℕ → List ℕ
dropped_line reason dropped =
    if dropped == 0 then [] else numbered (codes "Dropped ") dropped ++ reason

-- why nodes are dropped
abbrev pub dropped_nodes : List ℕ
dropped_nodes = codes " nodes by nodefraction\n"

-- why edges are dropped
abbrev pub dropped_edges : List ℕ
dropped_edges = codes " edges by edgefraction\n"

-- `shown` rows of `candidates` are shown
abbrev pub counts_text : ℕ → ℕ → List ℕ
counts_text shown candidates =
    numbered (codes "Showing top ") shown ++ numbered (codes " nodes out of ") candidates
    ++ codes "\n"

-- how many of the candidates are shown, where they are not all
abbrev pub limited_line : ℕ → ℕ → List ℕ
limited_line shown candidates = if nat_lt shown candidates then counts_text shown candidates else []

-- the heading of a table of such rows
abbrev pub heading : List ℕ
heading = codes "      flat    flat%     sum%        cum     cum%\n"
