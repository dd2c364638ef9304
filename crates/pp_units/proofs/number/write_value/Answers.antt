use Rattle.std.proofs.Common.{◌≤◌, ◌^◌, ℤ, pos, negsuc, unsigned_abs, FitsSigned, w64, arith}
use Rattle.std.proofs.lemmas.Int.{to_z-of_z}
use Rattle.pp_units.specs.Shown.{shown}
use Rattle.pp_units.proofs.ZeroText.{number_text-zero}
use Rattle.pp_units.proofs.number.write_value.Goals as goal

-- the size of a number of 64 bits
size_le : (z : ℤ) → FitsSigned w64 z → unsigned_abs z ≤ 2 ^ 63
size_le (pos n) fits = let below = fits.sfits in omega arith
size_le (negsuc n) fits = let below = fits.sfits in omega arith

pub returns-clause-zero : goal.returns-clause-zero
returns-clause-zero c =
    let value = c.args.value in
    let unit = c.args.unit.now in
    rw (c.write_signed.ensures, to_z-of_z w64 value c.ranges.value)
    (number_text-zero value (shown unit) (size_le value c.ranges.value) unit.from_bounded unit.to_bounded)
