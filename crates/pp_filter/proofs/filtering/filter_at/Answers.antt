use Rattle.std.proofs.Common.{subst, sym}
use Rattle.std.specs.Prelude.{Ok, Err, option_map}
use Rattle.pp_desk.specs.Words.{Asked}
use Rattle.pp_desk.proofs.AskedLemmas.{asked_by}
use Rattle.pp_filter.specs.Asked.{filter}
use Rattle.pp_filter.proofs.filtering.filter_at.Goals as goal

-- all patterns were asked
pub returns-in-Ok-clause-went : goal.returns-in-Ok-clause-went
returns-in-Ok-clause-went g c = asked_by (filter g.M.Matcher.finds c.args.profile c.args.config.now) _ _ _ _ (Ok (Ok c.in-Ok.saved)) c.in-Ok.ensures.went

-- one was refused
pub returns-in-Err-Refused-clause-went : goal.returns-in-Err-Refused-clause-went
returns-in-Err-Refused-clause-went g c =
    let script = filter g.M.Matcher.finds c.args.profile c.args.config.now in
    let went = rw c.in-Err-Refused.field-0-is at c.in-Err-Refused.ensures.went in
    subst (λ refused. Asked (g.M.Matcher.answers c.args.desk.now.matcher.now) (g.M.Matcher.answers c.filter.new.desk.matcher.now) script (option_map Err refused)) (sym c.refusal_of.ensures)
    (asked_by script _ _ _ _ (Ok (Err c.in-Err-Refused.refused)) went)

-- memory was wanting
pub returns-in-Err-Stopped-clause-went : goal.returns-in-Err-Stopped-clause-went
returns-in-Err-Stopped-clause-went g c =
    let went = rw c.in-Err-Stopped.field-0-is at c.in-Err-Stopped.ensures.went in
    asked_by (filter g.M.Matcher.finds c.args.profile c.args.config.now) _ _ _ _ (Err _) went
