use Rattle.std.proofs.Common.{rules, arith, ◌≡◌, ◌<◌, ◌≤◌, ◌∷◌, [], ◌++◌, length, map, ap, sym, ◌∙◌, Ok}
use Rattle.std.proofs.lemmas.List.{map_push}
use Rattle.pp_legacy.specs.Words.{whole_words}
use Rattle.pp_legacy.specs.Records.{entries_from}
use Rattle.pp_legacy.specs.Seen.{entry_of, step_of, entries_of}
use Rattle.pp_legacy.proofs.Refusals.{told}
use Rattle.pp_legacy.proofs.RecordLemmas.{goes_on, ends, fails, few_more}
use Rattle.pp_legacy.proofs.WordsLemmas.{eight_a_word}
use Rattle.pp_legacy.proofs.records.records_of.Goals as goal

pub returns-in_err-record-clause-read : goal.returns-in_err-record-clause-read
returns-in_err-record-clause-read c =
    told entries_of _ c.in_err-record.field-0.0 _ c.from_residual.ensures.1
    (fails _ _ _ _ _ c.in_err-record.field-0.0 c.loop-records.invariant.way c.in_err-record.ensures.read)

pub loop-records-preserved : goal.loop-records-preserved
loop-records-preserved c =
    let items : map entry_of c.push.new.self.items ≡ map entry_of c.loop-records.records.items ++ entry_of c.in-Some.record ∷ [] =
    ap (map entry_of) c.in_ok-push.ensures.items ∙ map_push entry_of c.loop-records.records.items c.in-Some.record in
    let next = rw c.in-Some.is at c.in_ok-record.ensures.forward in
    rw items
    (record {
      way =
          goes_on _ _ _ _ _ (entry_of c.in-Some.record) c.in-Some.next c.loop-records.invariant.way
          (c.in_ok-record.ensures.read ∙ ap (λ o. Ok (step_of o)) c.in-Some.is) (omega (arith, next.0)) next.1;
      few = few_more _ _ _ (entry_of c.in-Some.record) c.loop-records.invariant.few next.0;
    })

pub overflow_add-result : goal.overflow_add-result
overflow_add-result c =
    let within = rw c.in_default.is at c.in_ok-record.ensures.within in
    omega (arith, within, eight_a_word c.args.bytes.now)

pub returns-clause-read : goal.returns-clause-read
returns-clause-read c =
    ends _ _ _ _ _ c.loop-records.invariant.way (c.in_ok-record.ensures.read ∙ ap (λ o. Ok (step_of o)) c.in_default.is)
