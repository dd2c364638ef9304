use Rattle.std.proofs.Common.{◌≡◌, ℕ, ◌+◌, List, [], Bor, map, ap, arith, rules}
use Rattle.std.specs.Prelude.{Err}
use Rattle.std.proofs.lemmas.List.{take_rest}
use Rattle.pp_shell.proofs.ArgumentLemmas.{narrowing_start, word_taken, word_refused}
use Rattle.pp_shell.proofs.narrowing.narrowing_of.Goals as goal

-- nothing is taken
pub loop-taken-init : goal.loop-taken-init
loop-taken-init c = (omega arith, search rules, narrowing_start _ _ c.new-narrowing.ensures)

-- the word was refused
pub returns-in_err-taken-clause-narrowing : goal.returns-in_err-taken-clause-narrowing
returns-in_err-taken-clause-narrowing c =
    let is : c.from_residual.result ≡ Err c.in_err-taken.field-0.0 = search rules in
    word_refused (λ (w : Bor (List ℕ)). w.now) c.args.words.now c.loop-taken.taken (record { ref_ptr = (0, 0); now = [] }) _ ℕ c.loop-taken.narrowing c.take_word.new.self _ _
    c.loop-taken-test.true (ap (map (λ w. w.now)) (take_rest c.args.words.now (c.loop-taken.taken + 1))) c.loop-taken.invariant.2 c.in_err-taken.ensures.taken is

-- the word was taken
pub loop-taken-preserved : goal.loop-taken-preserved
loop-taken-preserved c =
    let taken = word_taken (λ (w : Bor (List ℕ)). w.now) c.args.words.now c.loop-taken.taken (record { ref_ptr = (0, 0); now = [] }) _ c.in_ok-taken.field-0 c.loop-taken.narrowing c.take_word.new.self
    c.loop-taken-test.true (ap (map (λ w. w.now)) (take_rest c.args.words.now (c.loop-taken.taken + 1))) c.in_ok-taken.ensures.count c.loop-taken.invariant.2 c.in_ok-taken.ensures.taken in
    (taken.0, c.in_ok-taken.ensures.fair, taken.1)
