use Rattle.std.proofs.Common.{length}
use Rattle.std.specs.Prelude.{Ok, Err}
use Rattle.std.proofs.lemmas.Result.{err_from_is_err_and}
use Rattle.pp_desk.proofs.AskingLemmas.{asking_second, asking_halts}
use Rattle.pp_load.specs.Combine.{combined}
use Rattle.pp_load.specs.Load.{read_plan, load}
use Rattle.pp_load.specs.Reads.{with_verdicts}
use Rattle.pp_load.proofs.Giving.{given}
use Rattle.pp_load.proofs.loading.load_plan.Goals as goal

-- what was read could not be combined
pub returns-in_err-profile-clause-went : goal.returns-in_err-profile-clause-went
unfolding load
returns-in_err-profile-clause-went g c =
    let p = err_from_is_err_and c.from_residual-in_err-profile.result c.from_residual-in_err-profile.ensures.1 in
    let plan = c.args.plan.now in
    let read = c.in_ok-read.read in
    rw (p.1, p.2)
    (asking_second _ _ (read_plan plan) _ _ read _ c.in_ok-read.ensures.went
    (asking_halts _ _ _ (with_verdicts g.D.Desk.finds) _
    (given _ (combined (length plan.origins) plan.base_kind plan.normalize read.profiles) (Err c.in_err-profile.field-0.0) c.in_err-profile.ensures.is)))

-- it was, and the patterns were asked
pub returns-clause-went : goal.returns-clause-went
unfolding load
returns-clause-went g c =
    let plan = c.args.plan.now in
    let read = c.in_ok-read.read in
    asking_second _ _ (read_plan plan) _ _ read _ c.in_ok-read.ensures.went
    (asking_second _ _ _ (with_verdicts g.D.Desk.finds) _ c.in_ok-profile.profile _
    (given _ (combined (length plan.origins) plan.base_kind plan.normalize read.profiles) (Ok c.in_ok-profile.profile) c.in_ok-profile.ensures.is)
    c.judge.ensures.went)
