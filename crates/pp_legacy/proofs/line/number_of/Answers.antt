use Rattle.std.proofs.Common.{arith, sym, ◌∙◌, ◌≡◌, ◌+◌, ◌*◌, ◌<◌, ◌^◌, take, get_or}
use Rattle.std.specs.Char.{digit_value}
use Rattle.std.specs.Str.Parse.{digits_value}
use Rattle.std.proofs.lemmas.Int.Digits.{digits_value_more}
use Rattle.pp_legacy.proofs.HexLemmas.{digit_below, spelled_more}
use Rattle.pp_legacy.proofs.line.number_of.Goals as goal

pub overflow_mul-number : goal.overflow_mul-number
overflow_mul-number c =
    omega (arith, spelled_more c.args.digits.now c.loop-digit.digit-index c.requires.digits c.requires.few c.loop-digit-test.true)

pub digit_of-requires : goal.digit_of-requires
digit_of-requires c = digit_below c.args.digits.now c.loop-digit.digit-index c.requires.digits c.loop-digit-test.true

pub overflow_add-number : goal.overflow_add-number
overflow_add-number c =
    omega (arith, spelled_more c.args.digits.now c.loop-digit.digit-index c.requires.digits c.requires.few c.loop-digit-test.true)

pub loop-digit-preserved : goal.loop-digit-preserved
loop-digit-preserved c =
    let more = digits_value_more 16 c.args.digits.now c.loop-digit.digit-index c.loop-digit-test.true in
    omega (arith, more)
