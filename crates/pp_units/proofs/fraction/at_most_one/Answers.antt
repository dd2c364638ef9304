use Rattle.std.proofs.Common.{◌≡◌, ℕ, ◌-◌, ◌^◌, ◌<◌, ◌≤◌, Bool, true, false, ◌&&◌, nat_le, if◌then◌else◌, List, Some, None, length, refl, arith, sym, ◌∙◌}
use Rattle.std.specs.Char.{is_ascii_digit}
use Rattle.std.specs.List.{list_all}
use Rattle.std.specs.Str.Parse.{digits_value}
use Rattle.std.proofs.Math.Nat.{one-le-pow}
use Rattle.std.proofs.lemmas.Nat.{mul-le}
use Rattle.std.proofs.lemmas.Bool.Decides.{nat_tests}
use Rattle.pp_units.specs.Fractions.{billionths, is_short_number}
use Rattle.pp_units.proofs.fraction.at_most_one.Goals as goal

-- decimals above a billion make a value above a billion billionths
large : (whole decimals : List ℕ) → 10 ^ 9 < digits_value 10 decimals → 10 ^ 9 < billionths whole decimals
large whole decimals h =
    let some : 1 ≤ 10 ^ (9 - length decimals) = one-le-pow (9 - length decimals) 10 (omega arith) in
    omega (arith, mul-le (digits_value 10 decimals) 1 (digits_value 10 decimals) (10 ^ (9 - length decimals)) (omega arith) some)

-- where the decimals are no number within a billion there is no fraction
no_parts : (a b c : Bool) (parts value : ℕ) → (10 ^ 9 < parts → 10 ^ 9 < value) → (if b && nat_le parts (10 ^ 9) then Some parts else None) ≡ None → (if (a && (c && b)) && nat_le value (10 ^ 9) then Some value else None) ≡ None
no_parts true true true parts value above none = grind (arith, nat_tests)
no_parts true false true parts value above none = refl
no_parts true true false parts value above none = refl
no_parts true false false parts value above none = refl
no_parts false b c parts value above none = refl

pub returns-in_err-parts-clause-value : goal.returns-in_err-parts-clause-value
returns-in_err-parts-clause-value c =
    let whole = c.args.whole.now in
    let decimals = c.args.decimals.now in
    c.from_residual-in_err-parts.ensures
    ∙ sym (no_parts (is_short_number whole) (list_all is_ascii_digit decimals) _ (digits_value 10 decimals) (billionths whole decimals) (large whole decimals) (sym c.in_err-parts.ensures))
