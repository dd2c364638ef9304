use Rattle.std.proofs.Common.{◌≡◌, ℕ, ◌+◌, List, subst, arith, rules, drop}
use Rattle.std.specs.Prelude.{Err}
use Rattle.std.proofs.lemmas.List.{drop_all}
use Rattle.pp_options.specs.Words.{Entry, sources}
use Rattle.pp_options.specs.Drafts.{IsReading}
use Rattle.pp_options.proofs.ReadingLemmas.{item_refused, sources_next, read_item, read_whole}
use Rattle.pp_options.proofs.draft.Draft.take_sources.Goals as goal

-- the source at the word was refused
pub returns-in_err-take : goal.returns-in_err-take
returns-in_err-take c whole reading =
    let path : c.in_ok-path.path ≡ c.index-words-i.result = search rules in
    let here = sources_next c.args.words.now c.loop-i.i (c.args.first + c.loop-i.i) c.index-words-i.result c.in_ok-path.path c.loop-i-test.true c.index-words-i.is path in
    let at_source = subst (λ (es : List Entry). IsReading c.loop-i.self whole es) here (c.loop-i.invariant whole reading) in
    let is : c.from_residual-in_err-take.result ≡ Err c.in_err-take.field-0.0 = search rules in
    item_refused (Unit {0}) _ _ c.take.new.self _ whole _ _ _ _ _ at_source c.in_err-take.ensures is

-- the source at the word was taken
pub loop-i-preserved : goal.loop-i-preserved
loop-i-preserved c whole reading =
    let path : c.in_ok-path.path ≡ c.index-words-i.result = search rules in
    let here = sources_next c.args.words.now c.loop-i.i (c.args.first + c.loop-i.i) c.index-words-i.result c.in_ok-path.path c.loop-i-test.true c.index-words-i.is path in
    let at_source = subst (λ (es : List Entry). IsReading c.loop-i.self whole es) here (c.loop-i.invariant whole reading) in
    let at : c.args.first + c.loop-i.i + 1 ≡ c.args.first + (c.loop-i.i + 1) = omega arith in
    subst (λ n. IsReading c.take.new.self whole (sources n (drop (c.loop-i.i + 1) c.args.words.now))) at
    (read_item _ _ whole _ _ _ at_source c.in_ok-take.ensures)

-- no words are left
pub returns : goal.returns
returns c whole reading =
    read_whole _ whole
    (subst (λ (ws : List (List ℕ)). IsReading c.loop-i.self whole (sources (c.args.first + c.loop-i.i) ws)) (drop_all c.loop-i.i c.args.words.now c.loop-i-test.false) (c.loop-i.invariant whole reading))
