-- Sixteen hexadecimal digits spell their number.
use Rattle.std.proofs.Common.{◌≡◌, ℕ, zero, suc, ◌+◌, ◌-◌, ◌*◌, ◌/◌, ◌%◌, ◌^◌, ◌<◌, ◌≤◌, List, map, arith, sym, ap, ◌∙◌}
use Rattle.std.specs.Char.{digit_value}
use Rattle.std.specs.List.{range_with_len}
use Rattle.std.specs.Str.Parse.{digits_value}
use Rattle.std.proofs.Math.Nat.{div-div-eq-div-mul}
use Rattle.std.proofs.lemmas.Int.Digits.{digits_value_push}
use Rattle.std.proofs.lemmas.List.FromFn.{map-range_with_len_more}
use Rattle.std.proofs.lemmas.Nat.{pow-add}
use Rattle.std.proofs.lemmas.Str.{digit_value-digit_char}
use Rattle.pp_grain.specs.Naming.{digit_at, hex16}

-- the first k digits
abbrev digits_so_far : ℕ → ℕ → List ℕ
digits_so_far n k = map (digit_at n) (range_with_len 0 k)

-- a digit's value
value_at : (n k : ℕ) → digit_value (digit_at n k) ≡ n / 2 ^ (60 - 4 * k) % 16
value_at n k = digit_value-digit_char (n / 2 ^ (60 - 4 * k) % 16) (omega arith)

-- sixteen of a part are the part with the next digit
next_part : (n a : ℕ) → n / (2 ^ (a + 4)) * 16 + n / 2 ^ a % 16 ≡ n / 2 ^ a
next_part n a =
    let larger : 2 ^ (a + 4) ≡ 2 ^ a * 16 = pow-add 2 a 4 in
    let part : n / 2 ^ (a + 4) ≡ n / 2 ^ a / 16 = ap (λ m. n / m) larger ∙ sym (div-div-eq-div-mul n (2 ^ a) 16) in
    ap (λ m. m * 16 + n / 2 ^ a % 16) part ∙ (let m = n / 2 ^ a in omega arith)

-- the first k digits spell what stands above the rest
value_so_far : (n k : ℕ) → n < 2 ^ 64 → k ≤ 16 → digits_value 16 (digits_so_far n k) ≡ n / 2 ^ (64 - 4 * k)
value_so_far n zero small within = let none : n / 2 ^ 64 ≡ 0 = omega (arith, small) in sym none
value_so_far n (suc k) small within =
    let more : suc k ≡ k + 1 = omega arith in
    let place : 64 - 4 * k ≡ (60 - 4 * k) + 4 = omega (arith, within) in
    let next : 64 - 4 * suc k ≡ 60 - 4 * k = omega (arith, within) in
    ap (λ m. digits_value 16 (digits_so_far n m)) more
    ∙ ap (digits_value 16) (map-range_with_len_more (digit_at n) 0 k k (omega arith))
    ∙ digits_value_push 16 (digits_so_far n k) (digit_at n k)
    ∙ ap (λ v. digits_value 16 (digits_so_far n k) * 16 + v) (value_at n k)
    ∙ ap (λ v. v * 16 + n / 2 ^ (60 - 4 * k) % 16) (value_so_far n k small (omega (arith, within)))
    ∙ ap (λ e. n / 2 ^ e * 16 + n / 2 ^ (60 - 4 * k) % 16) place
    ∙ next_part n (60 - 4 * k)
    ∙ ap (λ e. n / 2 ^ e) (sym next)

-- The digits spell the number.
pub hex16_value : (n : ℕ) → n < 2 ^ 64 → digits_value 16 (hex16 n) ≡ n
hex16_value n small = value_so_far n 16 small (omega arith) ∙ (omega arith)
