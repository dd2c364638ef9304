use Rattle.std.proofs.Common.{◌≡◌, false, true, ap, sym, ◌∙◌, rules}
use Rattle.pp_options.specs.Ends.{without_end}
use Rattle.pp_options.proofs.EndLemmas.{push_yes, push_no}
use Rattle.pp_shell.specs.Blanks.{is_blank}
use Rattle.pp_shell.proofs.blank.without_end.Goals as goal

-- the last byte is no blank, so all stay
pub returns-then-not-is_blank : goal.returns-then-not-is_blank
returns-then-not-is_blank c =
    let letter : is_blank c.in-Some.last.now ≡ false = search rules in
    c.in-Some.ensures.cases.0
    ∙ sym (push_no is_blank c.in-Some.before.now c.in-Some.last.now letter)
    ∙ ap (without_end is_blank) (sym c.in-Some.ensures.cases.0)
    ∙ c.loop-last.invariant

-- a blank at the end goes
pub loop-last-preserved : goal.loop-last-preserved
loop-last-preserved c =
    let blank : is_blank c.in-Some.last.now ≡ true = search rules in
    sym (push_yes is_blank c.in-Some.before.now c.in-Some.last.now blank)
    ∙ ap (without_end is_blank) (sym c.in-Some.ensures.cases.0)
    ∙ c.loop-last.invariant
