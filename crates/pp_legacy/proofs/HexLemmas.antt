-- Hexadecimal digits and the numbers that they spell.
use Rattle.std.proofs.Common.{◌≡◌, ℕ, zero, suc, ◌+◌, ◌*◌, ◌<◌, ◌≤◌, ◌^◌, Bool, true, false, cond, List, [], ◌∷◌, length, get_or, take, refl, sym, ap, ◌∙◌, arith, rules, lit≤}
use Rattle.std.specs.Char.{is_ascii_hexdigit, digit_value}
use Rattle.std.specs.List.{prefix_len}
use Rattle.std.specs.Str.Parse.{AllDigits, digits_value}
use Rattle.std.proofs.Math.Nat.{pow-le-pow_right}
use Rattle.std.proofs.lemmas.Bool.Decides.{nat_tests}
use Rattle.std.proofs.lemmas.Int.Digits.{digits_value-lt, digits_value_more}
use Rattle.std.proofs.lemmas.Str.Parse.{digits_value-take-le}

-- a digit has a value below 16
hex_below : (c : ℕ) → is_ascii_hexdigit c ≡ true → digit_value c < 16
hex_below c digit = grind (arith, nat_tests)

-- the digits at the front are digits
pub all_hex : (line : List ℕ) → AllDigits 16 (take (prefix_len is_ascii_hexdigit line) line)
all_hex [] = tt
all_hex (c ∷ line) = by (is_ascii_hexdigit c) refl (all_hex line)
  where
    by : (b : Bool) → is_ascii_hexdigit c ≡ b → AllDigits 16 (take (prefix_len is_ascii_hexdigit line) line)
        → AllDigits 16 (take (cond b (1 + prefix_len is_ascii_hexdigit line) 0) (c ∷ line))
    by true is rest = let next : 1 + prefix_len is_ascii_hexdigit line ≡ suc (prefix_len is_ascii_hexdigit line) = omega arith in rw next (hex_below c is, rest)
    by false is rest = tt

-- each of the digits has a value below 16
pub digit_below : (digits : List ℕ) (i : ℕ) → AllDigits 16 digits → i < length digits → digit_value (get_or digits i 0) < 16
digit_below [] i all within = absurd (omega arith)
digit_below (c ∷ digits) zero all within = all.0
digit_below (c ∷ digits) (suc i) all within = digit_below digits i all.1 (omega arith)

-- the number that the first digits spell has 64 bits
pub spelled_below : (digits : List ℕ) (i : ℕ) → AllDigits 16 digits → length digits ≤ 16 → digits_value 16 (take i digits) < 2 ^ 64
spelled_below digits i all few =
    let most : 16 ^ length digits ≤ 16 ^ 16 = pow-le-pow_right (omega arith) few in
    let part = digits_value-take-le 16 digits i (omega arith) in
    let whole = digits_value-lt 16 digits all in
    omega (arith, most, part, whole)

-- with one digit more
pub spelled_more : (digits : List ℕ) (i : ℕ) → AllDigits 16 digits → length digits ≤ 16 → i < length digits
    → digits_value 16 (take i digits) * 16 + digit_value (get_or digits i 0) < 2 ^ 64
spelled_more digits i all few within =
    let more = digits_value_more 16 digits i within in
    let below = spelled_below digits (i + 1) all few in
    omega (arith, more, below)
