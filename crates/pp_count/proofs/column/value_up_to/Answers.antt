use Rattle.std.proofs.Common.{ℕ, ◌≡◌, ◌+◌, get_or, true, arith}
use Rattle.std.specs.Char.{digit_value, is_ascii_digit}
use Rattle.std.specs.Int.{IsInRange}
use Rattle.std.proofs.lemmas.List.Sums.{AllPass-from_list_all}
use Rattle.std.proofs.lemmas.Int.Digits.{digits_value_more}
use Rattle.std.proofs.lemmas.Str.{digit_value_digit}
use Rattle.pp_count.proofs.column.value_up_to.Goals as goal

-- the code of a digit lies between those of 0 and 9
digit_bounds : (digit : ℕ) → is_ascii_digit digit ≡ true → IsInRange 48 57 digit
digit_bounds digit is = grind (arith, is)

pub loop-digit-preserved : goal.loop-digit-preserved
loop-digit-preserved c =
    let digit : ℕ = get_or c.args.digits.now c.loop-digit.digit-index 0 in
    let is_digit : is_ascii_digit digit ≡ true = AllPass-from_list_all is_ascii_digit c.args.digits.now c.requires.digits c.loop-digit.digit-index 0 c.loop-digit-test.true in
    let whole : digit_value digit + 48 ≡ digit = digit_value_digit digit (digit_bounds digit is_digit) in
    omega (arith, c.min-value.ensures, c.from.ensures, c.loop-digit.invariant, whole, digits_value_more 10 c.args.digits.now c.loop-digit.digit-index c.loop-digit-test.true)
