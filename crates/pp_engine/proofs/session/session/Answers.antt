use Rattle.std.proofs.Common.{sym, ◌∙◌}
use Rattle.pp_engine.proofs.Leaving.{leaves_planned, leaves_unplanned}
use Rattle.pp_engine.proofs.Performing.{session_plan, session_fault}
use Rattle.pp_engine.proofs.session.session.Goals as goal

pub returns-in-Ok-clause-went : goal.returns-in-Ok-clause-went
returns-in-Ok-clause-went g c =
    rw (session_plan g.D.Desk.finds c.args.words.now (sym c.topic_asked.ensures ∙ c.in-None.is) c.in-Ok.plan c.in-Ok.ensures) c.perform-done.ensures.went

pub returns-in-Ok-clause-profile : goal.returns-in-Ok-clause-profile
returns-in-Ok-clause-profile g c =
    leaves_planned g.D.Desk.finds c.args.words.now c.in-Ok.plan _ _ _ _ _ (sym c.topic_asked.ensures ∙ c.in-None.is) c.in-Ok.ensures c.perform-done.ensures.profile

pub returns-in-Err-Fault-clause-went : goal.returns-in-Err-Fault-clause-went
returns-in-Err-Fault-clause-went g c =
    rw (session_fault g.D.Desk.finds c.args.words.now (sym c.topic_asked.ensures ∙ c.in-None.is) c.in-Err-Fault.fault (rw c.in-Err-Fault.field-0-is at c.in-Err-Fault.ensures)) c.refuse_words.ensures

pub returns-in-Err-Fault-clause-profile : goal.returns-in-Err-Fault-clause-profile
returns-in-Err-Fault-clause-profile g c =
    leaves_unplanned g.D.Desk.finds c.args.words.now c.in-Err-Fault.fault _ _ _ _ (sym c.topic_asked.ensures ∙ c.in-None.is) (rw c.in-Err-Fault.field-0-is at c.in-Err-Fault.ensures)
