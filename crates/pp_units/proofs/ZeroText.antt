-- Only a number that is rounded to 0 has the text `0`.
use Rattle.std.proofs.Common.{◌≡◌, ◌↔◌, ℕ, zero, suc, neg_ℤ, ◌+◌, ◌*◌, ◌/◌, ◌%◌, ◌^◌, ◌<◌, ◌≤◌, ℤ, pos, negsuc, unsigned_abs, Bool, true, false, Option, Some, None, ◌==◌, if◌then◌else◌, List, [], ◌∷◌, ◌++◌, length, get_or, codes, refl, arith, ap, sym, ◌∙◌, append-nil, length-append}
use Rattle.std.specs.Fmt.{decimal, digits}
use Rattle.std.specs.Option.{option_map_or}
use Rattle.std.specs.Str.Parse.{digits_value}
use Rattle.std.proofs.lemmas.Bool.Decides.{nat_tests}
use Rattle.std.proofs.lemmas.Fmt.{decimal_is_IsNumeral_wide}
use Rattle.std.proofs.Math.Nat.{div-le_self}
use Rattle.std.proofs.lemmas.Nat.{mul-le}
use Rattle.pp_units.specs.Rounded.{nearest, rounded}
use Rattle.pp_units.specs.declared.scale.Scale.{Scale}
use Rattle.pp_units.specs.declared.scale.Scale.TheVariants.{Nanoseconds, Microseconds, Milliseconds, Seconds, Hours, SingleBytes, Kilobytes, Megabytes, Gigabytes, Terabytes, Petabytes, Counts}
use Rattle.pp_units.specs.Scales.{factor}
use Rattle.pp_units.specs.Shown.{Shown, own_scale, to_at}
use Rattle.pp_units.specs.Numbers.{decimals, shortened, signed_text, number_text}

-- the whole part is 0
whole_zero : (whole : ℕ) → whole < 10 ^ 64 → decimal whole ≡ codes "0" → whole ≡ 0
whole_zero whole small e = sym (decimal_is_IsNumeral_wide whole small).1 ∙ ap (digits_value 10) e

-- the whole part is 0, and no decimals stand after it
by_tail : (n : ℕ) (b : Bool) → (n % 100 == 0) ≡ b → n / 100 < 10 ^ 64 → decimal (n / 100) ++ (if b then [] else decimals n) ≡ codes "0" → n ≡ 0
by_tail n true t small e =
    let whole : n / 100 ≡ 0 = whole_zero (n / 100) small (sym (append-nil _) ∙ e) in
    let rest : n % 100 ≡ 0 = grind (arith, nat_tests) in
    omega arith
by_tail n false t small e =
    let size : length (decimal (n / 100)) + 3 ≡ 1 = sym (length-append (decimal (n / 100)) (decimals n)) ∙ ap length e in
    absurd (omega arith)

-- a minus is no digit
minus_first : (xs ys : List ℕ) → 45 ∷ xs ≡ 48 ∷ ys → ⊥
minus_first xs ys e = absurd (omega (arith, ap (λ (text : List ℕ). get_or text 0 0) e))

zero_from_text : (z : ℤ) → unsigned_abs z / 100 < 10 ^ 64 → signed_text shortened z ≡ codes "0" → z ≡ pos 0
zero_from_text (pos n) small e = ap pos (by_tail n (n % 100 == 0) refl small e)
zero_from_text (negsuc n) small e = absurd (minus_first (shortened (suc n)) [] e)

zero_text : (z : ℤ) → z ≡ pos 0 → signed_text shortened z ≡ codes "0"
unfolding digits
zero_text z e = ap (signed_text shortened) e

-- a rounded number is no greater than this
size_le : (h : ℕ) → unsigned_abs (neg_ℤ (pos h)) ≡ h
size_le zero = refl
size_le (suc h) = refl

rounded_le : (value : ℤ) (times over : ℕ) → unsigned_abs (rounded value times over) ≤ 2 * (unsigned_abs value * times) + over
rounded_le (pos n) times over = div-le_self (2 * (n * times) + over) (2 * over)
rounded_le (negsuc n) times over =
    let size : unsigned_abs (rounded (negsuc n) times over) ≡ nearest (suc n * times) over = size_le (nearest (suc n * times) over) in
    omega (arith, size, div-le_self (2 * (suc n * times) + over) (2 * over))

factor_bounded : (scale : Scale) → factor scale ≤ 2 ^ 50
factor_bounded Nanoseconds = omega arith
factor_bounded Microseconds = omega arith
factor_bounded Milliseconds = omega arith
factor_bounded Seconds = omega arith
factor_bounded Hours = omega arith
factor_bounded SingleBytes = omega arith
factor_bounded Kilobytes = omega arith
factor_bounded Megabytes = omega arith
factor_bounded Gigabytes = omega arith
factor_bounded Terabytes = omega arith
factor_bounded Petabytes = omega arith
factor_bounded Counts = omega arith

scale_bounded : (scale : Option Scale) (to : ℕ) → to ≤ 2 ^ 50 → option_map_or factor scale to ≤ 2 ^ 50
scale_bounded None to h = h
scale_bounded (Some scale) to h = factor_bounded scale

-- the unit of a value is no greater than this
own_bounded : (size : ℕ) (unit : Shown) → unit.to ≤ 2 ^ 50 → to_at size unit ≤ 2 ^ 50
own_bounded size unit h = scale_bounded (own_scale size unit) unit.to h

-- the text of a value's number is `0` exactly where the number is rounded to 0
pub number_text-zero : (value : ℤ) (unit : Shown) → unsigned_abs value ≤ 2 ^ 63 → unit.from ≤ 2 ^ 50 → unit.to ≤ 2 ^ 50
    → (number_text value unit ≡ codes "0") ↔ (rounded value (100 * unit.from) (to_at (unsigned_abs value) unit) ≡ pos 0)
unfolding number_text
number_text-zero value unit small from to =
    let over = to_at (unsigned_abs value) unit in
    let own : over ≤ 2 ^ 50 = own_bounded (unsigned_abs value) unit to in
    let product : unsigned_abs value * (100 * unit.from) ≤ 2 ^ 63 * (100 * 2 ^ 50) = mul-le (unsigned_abs value) (100 * unit.from) (2 ^ 63) (100 * 2 ^ 50) small (omega arith) in
    let size : unsigned_abs (rounded value (100 * unit.from) over) ≤ 2 * (2 ^ 63 * (100 * 2 ^ 50)) + 2 ^ 50 = omega (arith, rounded_le value (100 * unit.from) over) in
    (zero_from_text (rounded value (100 * unit.from) over) (omega arith), zero_text (rounded value (100 * unit.from) over))
