use Rattle.std.proofs.Common.{◌≡◌, ℕ, ◌+◌, ◌-◌, ◌*◌, ◌<◌, Bool, true, false, List, ◌&&◌, if◌then◌else◌, Some, None, length, get_or, take, refl, arith, sym, ◌∙◌}
use Rattle.std.specs.Char.{is_ascii_digit, digit_value}
use Rattle.std.specs.List.{list_all}
use Rattle.std.specs.Str.Parse.{digits_value}
use Rattle.std.proofs.lemmas.Bool.Decides.{nat_tests}
use Rattle.std.proofs.lemmas.List.{take_more}
use Rattle.std.proofs.lemmas.List.Folds.{list_all_more}
use Rattle.std.proofs.lemmas.Str.Parse.{digits_value-take-le}
use Rattle.std.proofs.lemmas.Int.Digits.{digits_value_push}
use Rattle.pp_units.specs.Digits.{within}
use Rattle.pp_units.proofs.scan.number_within.Goals as goal

-- the value of a decimal digit
value_is : (b : ℕ) → is_ascii_digit b ≡ true → digit_value b ≡ b - 48
value_is b digit = grind (arith, nat_tests)

-- one digit more
one_more : (digits : List ℕ) (i number : ℕ) → i < length digits → is_ascii_digit (get_or digits i 0) ≡ true → number ≡ digits_value 10 (take i digits) → number * 10 + (get_or digits i 0 - 48) ≡ digits_value 10 (take (i + 1) digits)
one_more digits i number below digit e =
    let value : digit_value (get_or digits i 0) ≡ get_or digits i 0 - 48 = value_is _ digit in
    rw (take_more digits i 0 below, digits_value_push 10 (take i digits) (get_or digits i 0), value, ← e)

-- both tests have to pass
fails : (a b : Bool) (n : ℕ) → b ≡ false → (if a && b then Some n else None) ≡ None
fails true b n h = rw h refl
fails false b n h = refl

-- a number that is above is not within
above : (most : ℕ) (digits : List ℕ) → most < digits_value 10 digits → within most digits ≡ None
above most digits h = fails (list_all is_ascii_digit digits) _ _ (grind (arith, nat_tests))

pub returns-then-number-from : goal.returns-then-number-from
returns-then-number-from c =
    let digits = c.args.digits.now in
    let i = c.loop-digit.digit-index in
    let read : c.loop-digit.number * 10 + (get_or digits i 0 - 48) ≡ digits_value 10 (take (i + 1) digits) = one_more digits i _ c.loop-digit-test.true (sym c.if-not-is_ascii_digit.ensures.value) c.loop-digit.invariant.0 in
    sym (above c.args.most digits (omega (arith, digits_value-take-le 10 digits (i + 1) (omega arith))))

pub loop-digit-preserved : goal.loop-digit-preserved
loop-digit-preserved c =
    let digits = c.args.digits.now in
    let i = c.loop-digit.digit-index in
    let digit : is_ascii_digit (get_or digits i 0) ≡ true = sym c.if-not-is_ascii_digit.ensures.value in
    let read : c.loop-digit.number * 10 + (get_or digits i 0 - 48) ≡ digits_value 10 (take (i + 1) digits) = one_more digits i _ c.loop-digit-test.true digit c.loop-digit.invariant.0 in
    (omega arith, list_all_more is_ascii_digit digits i 0 c.loop-digit-test.true ∙ rw (c.loop-digit.invariant.1, digit) refl, omega arith)
