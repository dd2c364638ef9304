use Rattle.std.proofs.Common.{◌≡◌, ℕ, ◌+◌, ◌-◌, ◌≤◌, ◌∷◌, true, false, List, [], length, subst, sym, ap, ◌∙◌, arith, rules, refl}
use Rattle.std.specs.Prelude.{Err}
use Rattle.std.proofs.lemmas.List.{nil_from_length}
use Rattle.std.proofs.lemmas.Option.{MatchOption-at_none}
use Rattle.pp_options.specs.Words.{entries, ends_options}
use Rattle.pp_options.specs.Drafts.{IsReading}
use Rattle.pp_options.proofs.ReadingLemmas.{entry_refused, left_shorter, read_end, read_next, read_entry, read_whole}
use Rattle.pp_options.proofs.draft.Draft.take_words.Goals as goal

-- the words after `--` are sources
pub returns-then-is : goal.returns-then-is
returns-then-is c whole reading =
    let ends : ends_options c.in-Some.word.now ≡ true = search rules in
    c.take_sources.ensures whole
    (read_end _ whole c.args.words.now c.loop-word.rest.now _ _ (c.loop-word.invariant.1 whole reading) c.in-Some.ensures.cases.0 c.loop-word.invariant.0 ends)

-- the entry at the word was refused
pub returns-in_err-rest : goal.returns-in_err-rest
returns-in_err-rest c whole reading =
    let word = c.as_slice-in-Some.result.now in
    let ends : ends_options word ≡ false = search rules in
    let opened : c.loop-word.rest.now ≡ word ∷ c.in-Some.after.now = c.in-Some.ensures.cases.0 ∙ ap (λ w. w ∷ c.in-Some.after.now) (sym c.as_slice-in-Some.ensures) in
    let at_entry = read_next c.loop-word.self whole c.args.words.now c.loop-word.rest.now word c.in-Some.after.now _ (c.loop-word.invariant.1 whole reading) opened c.loop-word.invariant.0 ends refl in
    let is : c.from_residual.result ≡ Err c.in_err-rest.field-0.0 = search rules in
    entry_refused (Unit {0}) _ _ c.take_entry.new.self _ whole _ _ _ _ at_entry c.in_err-rest.ensures.taken is

-- the entry at the word was taken
pub loop-word-preserved : goal.loop-word-preserved
loop-word-preserved c =
    let word = c.as_slice-in-Some.result.now in
    let after = c.in-Some.after.now in
    let ends : ends_options word ≡ false = search rules in
    let opened : c.loop-word.rest.now ≡ word ∷ after = c.in-Some.ensures.cases.0 ∙ ap (λ w. w ∷ after) (sym c.as_slice-in-Some.ensures) in
    let fewer : length c.in_ok-rest.rest.now ≤ length after = rw c.in_ok-rest.ensures.left (left_shorter word after) in (
      omega (arith, c.in-Some.ensures.cases.1, c.loop-word.invariant.0),
      λ whole reading.
          read_entry _ _ whole _ _
          (read_next c.loop-word.self whole c.args.words.now c.loop-word.rest.now word after c.in_ok-rest.rest.now (c.loop-word.invariant.1 whole reading) opened c.loop-word.invariant.0 ends c.in_ok-rest.ensures.left)
          c.in_ok-rest.ensures.taken,
    )

-- no words are left
pub returns : goal.returns
returns c whole reading =
    let none : c.loop-word.rest.now ≡ [] = nil_from_length c.loop-word.rest.now (MatchOption-at_none _ _ c.in_default.is c.split_first.ensures.cases) in
    read_whole _ whole (subst (λ (ws : List (List ℕ)). IsReading c.loop-word.self whole (entries (length c.args.words.now - length ws + 1) ws)) none (c.loop-word.invariant.1 whole reading))
