use Rattle.std.proofs.Common.{ap}
use Rattle.pp_desk.specs.Words.{Told}
use Rattle.pp_engine.proofs.Leaving.{leaves_whole, leaves_stopped}
use Rattle.pp_engine.proofs.Runs.{ran_whole, ran_front, lines_front, unread_front, taken_front}
use Rattle.pp_engine.proofs.running.run_session.Goals as goal

pub returns-in-Ok-clause-ending : goal.returns-in-Ok-clause-ending
returns-in-Ok-clause-ending g c =
    rw (c.of.ensures.cause) (ran_whole g.D.Desk.finds c.args.words.now _ _ c.in-Ok.cause c.in-Ok.ensures.went)

pub returns-in-Err-clause-lines : goal.returns-in-Err-clause-lines
returns-in-Err-clause-lines g c = lines_front g.D.Desk.finds c.args.words.now _ _ _ _ _ c.in-Err.ensures.went c.tell_stop.ensures

pub returns-in-Err-clause-unread : goal.returns-in-Err-clause-unread
returns-in-Err-clause-unread g c = unread_front g.D.Desk.finds c.args.words.now _ _ _ _ _ c.in-Err.ensures.went c.tell_stop.ensures

pub returns-in-Err-clause-ending : goal.returns-in-Err-clause-ending
returns-in-Err-clause-ending g c =
    rw (c.of-in-Err.ensures.cause, c.cause_of_stop.ensures) (ran_front g.D.Desk.finds c.args.words.now _ _ _ c.in-Err.stop c.in-Err.ensures.went c.tell_stop.ensures)

pub returns-in-Err-clause-taken : goal.returns-in-Err-clause-taken
returns-in-Err-clause-taken g c = taken_front g.D.Desk.finds c.args.words.now _ _ _ _ _ c.in-Err.ensures.went c.tell_stop.ensures

pub returns-in-Ok-clause-profile : goal.returns-in-Ok-clause-profile
returns-in-Ok-clause-profile g c = leaves_whole g.D.Desk.finds _ _ _ _ _ _ c.in-Ok.ensures.profile

pub returns-in-Err-clause-profile : goal.returns-in-Err-clause-profile
returns-in-Err-clause-profile g c =
    rw (c.of-in-Err.ensures.cause, c.cause_of_stop.ensures)
    (leaves_stopped g.D.Desk.finds _ _ _ _ c.in-Err.stop _ _ (ap (λ (t : Told). t.answers) c.tell_stop.ensures.tells) c.in-Err.ensures.profile)
