use Rattle.std.proofs.Common.{◌≡◌, false, true, ap, sym, ◌∙◌, arith, rules}
use Rattle.std.specs.Char.{is_ascii_digit}
use Rattle.pp_options.proofs.EndLemmas.{push_yes, push_no}
use Rattle.pp_shell.specs.Commands.{without_digits}
use Rattle.pp_shell.proofs.name.report_name.Goals as goal

-- the last byte is no digit, so all stay
pub returns-then-not-is_ascii_digit-clause-name : goal.returns-then-not-is_ascii_digit-clause-name
returns-then-not-is_ascii_digit-clause-name c =
    let letter : is_ascii_digit c.in-Some.last.now ≡ false = search rules in
    c.in-Some.ensures.cases.0
    ∙ sym (push_no is_ascii_digit c.in-Some.before.now c.in-Some.last.now letter)
    ∙ ap without_digits (sym c.in-Some.ensures.cases.0)
    ∙ c.loop-last.invariant.0

-- a digit at the end goes
pub loop-last-preserved : goal.loop-last-preserved
loop-last-preserved c =
    let digit : is_ascii_digit c.in-Some.last.now ≡ true = search rules in (
      sym (push_yes is_ascii_digit c.in-Some.before.now c.in-Some.last.now digit)
          ∙ ap without_digits (sym c.in-Some.ensures.cases.0)
          ∙ c.loop-last.invariant.0,
      omega (arith, c.in-Some.ensures.cases.1, c.loop-last.invariant.1),
    )
