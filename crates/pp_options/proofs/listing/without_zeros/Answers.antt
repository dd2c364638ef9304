use Rattle.std.proofs.Common.{◌≡◌, false, true, ap, sym, ◌∙◌, rules}
use Rattle.pp_options.specs.Ends.{without_end}
use Rattle.pp_options.specs.Listing.{is_zero_digit}
use Rattle.pp_options.proofs.EndLemmas.{push_yes, push_no}
use Rattle.pp_options.proofs.listing.without_zeros.Goals as goal

-- the last digit isn't 0, so all stay
pub returns-then-last-ne48 : goal.returns-then-last-ne48
returns-then-last-ne48 c =
    let digit : is_zero_digit c.in-Some.last.now ≡ false = search rules in
    c.in-Some.ensures.cases.0
    ∙ sym (push_no is_zero_digit c.in-Some.before.now c.in-Some.last.now digit)
    ∙ ap (without_end is_zero_digit) (sym c.in-Some.ensures.cases.0)
    ∙ c.loop-last.invariant

-- a 0 at the end goes
pub loop-last-preserved : goal.loop-last-preserved
loop-last-preserved c =
    let zero : is_zero_digit c.in-Some.last.now ≡ true = search rules in
    sym (push_yes is_zero_digit c.in-Some.before.now c.in-Some.last.now zero)
    ∙ ap (without_end is_zero_digit) (sym c.in-Some.ensures.cases.0)
    ∙ c.loop-last.invariant
