use Rattle.std.proofs.Common.{sym, ap}
use Rattle.std.specs.Result.{result_ok}
use Rattle.pp_engine.proofs.Leaving.{is_loaded, leaves_loaded}
use Rattle.pp_engine.proofs.Serving.{once_ended}
use Rattle.pp_engine.proofs.session.perform.Goals as goal

-- what was loaded is left, also where a report is stopped
pub returns-in_err-made-in-Some-clause-profile : goal.returns-in_err-made-in-Some-clause-profile
returns-in_err-made-in-Some-clause-profile g c =
    let own = c.in_ok-l.ensures in
    leaves_loaded g.D.Desk.finds c.args.plan.now _ _ _ c.in_ok-l.field-0 _ c.noted_report-made.result _ _ _ own.went c.noted_report-made.ensures
    (is_loaded g.D.Desk.finds c.in_ok-l.field-0 own.countable own.alone own.found) (sym (ap result_ok c.in-Ok.is))

-- or comes to a text or a refusal
pub returns-in_ok-made-in-Some-clause-profile : goal.returns-in_ok-made-in-Some-clause-profile
returns-in_ok-made-in-Some-clause-profile g c =
    let own = c.in_ok-l.ensures in
    leaves_loaded g.D.Desk.finds c.args.plan.now _ _ _ c.in_ok-l.field-0 _ c.end_report.result _ _ _ own.went
    (once_ended g.D.Desk.finds c.in-Ok.l c.args.plan.now.base_kind _ c.args.plan.now.config _ _ c.in_ok-made-in-Some.field-0 c.in_ok-made-in-Some.ensures _ c.end_report.result c.end_report.ensures)
    (is_loaded g.D.Desk.finds c.in_ok-l.field-0 own.countable own.alone own.found) (sym (ap result_ok c.in-Ok.is))

-- and behind the shell
pub returns-in-None-clause-profile : goal.returns-in-None-clause-profile
returns-in-None-clause-profile g c =
    let own = c.in_ok-l.ensures in
    leaves_loaded g.D.Desk.finds c.args.plan.now _ _ _ c.in_ok-l.field-0 _ c.shell-done.result _ _ _ own.went c.shell-done.ensures
    (is_loaded g.D.Desk.finds c.in_ok-l.field-0 own.countable own.alone own.found) (sym (ap result_ok c.in-Ok.is))

-- nothing is, where loading is refused
pub returns-in-Err-clause-profile : goal.returns-in-Err-clause-profile
returns-in-Err-clause-profile g c =
    let own = c.in_ok-l.ensures in
    leaves_loaded g.D.Desk.finds c.args.plan.now _ _ _ c.in_ok-l.field-0 _ c.refuse_profile.result _ _ _ own.went c.refuse_profile.ensures
    (is_loaded g.D.Desk.finds c.in_ok-l.field-0 own.countable own.alone own.found) (sym (ap result_ok c.in-Err.is))
