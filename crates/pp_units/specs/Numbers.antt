-- The texts of values and of percentages.
use Rattle.std.specs.Prelude.{ℕ, Bool, ◌&&◌, nat_lt, suc, ◌+◌, ◌-◌, ◌*◌, ◌/◌, ◌%◌, ℤ, pos, negsuc, unsigned_abs, List, [], ◌∷◌, ◌++◌, length, replicate, ◌==◌, bytes_eq, codes, decimal, if◌then◌else◌}
use Rattle.pp_units.specs.Rounded.{rounded}
use Rattle.pp_units.specs.Shown.{Shown, to_at, suffix_at}

-- the two decimals of a number of hundredths, after a point
abbrev pub decimals : ℕ → List ℕ
decimals hundredths = codes "." ++ (48 + hundredths % 100 / 10) ∷ (48 + hundredths % 10) ∷ []

-- a number of hundredths, with two decimals
abbrev pub full : ℕ → List ℕ
full hundredths = decimal (hundredths / 100) ++ decimals hundredths

-- a number of hundredths with two decimals, where `.00` is left out
abbrev pub shortened : ℕ → List ℕ
shortened hundredths =
    decimal (hundredths / 100) ++ (if hundredths % 100 == 0 then [] else decimals hundredths)

-- a minus before the text of a number below 0
abbrev pub signed_text : (ℕ → List ℕ) → ℤ → List ℕ
signed_text text (pos n) = text n
signed_text text (negsuc n) = codes "-" ++ text (suc n)

-- a minus, where n is negative and not 0; no public clause cites it
abbrev pub sign_text : Bool → ℕ → List ℕ
sign_text negative n = if negative && nat_lt 0 n then codes "-" else []

-- a value's number in its printed unit, in hundredths, without what stands after it
unfoldable pub number_text : ℤ → Shown → List ℕ
number_text value unit =
    signed_text shortened (rounded value (100 * unit.from) (to_at (unsigned_abs value) unit))

-- what stands after a number: nothing after 0
abbrev pub suffix_after : List ℕ → List ℕ → List ℕ
suffix_after number suffix = if bytes_eq number (codes "0") then [] else suffix

-- a value's whole text
unfoldable pub value_text : ℤ → Shown → List ℕ
value_text value unit =
    number_text value unit ++ suffix_after (number_text value unit) (suffix_at (unsigned_abs value) unit)

-- how much of the total a value is, in hundredths of a percent
unfoldable pub percent_text : ℤ → ℕ → List ℕ
percent_text value total =
    if total == 0 then codes "0%" else signed_text full (rounded value 10000 total) ++ codes "%"

-- a text that ends at the right of `width` places; a longer one stands whole
abbrev pub right_text : ℕ → List ℕ → List ℕ
right_text width text = replicate (width - length text) 32 ++ text
