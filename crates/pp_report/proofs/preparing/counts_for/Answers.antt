use Rattle.std.proofs.Common.{subst}
use Rattle.std.proofs.lemmas.Result.{err_from_is_err_and, IfOk-at_ok}
use Rattle.pp_model.specs.Rules.{IsCompact}
use Rattle.pp_report.specs.Prepared.{showing}
use Rattle.pp_report.proofs.PreparingLemmas.{counts_stop, counts_refused, counts_want, counts_all, all_counted}
use Rattle.pp_report.proofs.preparing.counts_for.Goals as goal

-- the patterns were stopped
pub returns-in_err-verdicts-clause-went : goal.returns-in_err-verdicts-clause-went
returns-in_err-verdicts-clause-went g c =
    let p = err_from_is_err_and c.from_residual.result c.from_residual.ensures.1 in
    rw (p.1, p.2) (counts_stop g.D.Desk.finds c.args.l.now c.args.report.now c.args.config.now.filtering (showing c.args.shows.now) _ _ _ c.in_err-verdicts.ensures.went)

-- one was refused
pub returns-in-Err-clause-went : goal.returns-in-Err-clause-went
returns-in-Err-clause-went g c =
    counts_refused g.D.Desk.finds c.args.l.now c.args.report.now c.args.config.now.filtering (showing c.args.shows.now) _ _ _ c.in_ok-verdicts.ensures.went
    c.in-Err.refusal c.in-Err.is

-- memory was wanting after them
pub returns-in-Err-count-clause-went : goal.returns-in-Err-count-clause-went
returns-in-Err-count-clause-went g c =
    counts_want g.D.Desk.finds c.args.l.now c.args.report.now c.args.config.now.filtering (showing c.args.shows.now) _ _ _ c.in_ok-verdicts.ensures.went
    c.in-Ok.verdicts c.in-Ok.is

pub returns-in_err-noted-in-Ok-count-clause-went : goal.returns-in_err-noted-in-Ok-count-clause-went
returns-in_err-noted-in-Ok-count-clause-went g c =
    let p = err_from_is_err_and c.from_residual-in_err-noted-in-Ok-count.result c.from_residual-in_err-noted-in-Ok-count.ensures.1 in
    rw (p.1, p.2) (counts_want g.D.Desk.finds c.args.l.now c.args.report.now c.args.config.now.filtering (showing c.args.shows.now) _ _ _
    c.in_ok-verdicts.ensures.went c.in-Ok.verdicts c.in-Ok.is)

-- the samples were counted
pub returns-in_ok-noted-in-Ok-count-clause-counted : goal.returns-in_ok-noted-in-Ok-count-clause-counted
returns-in_ok-noted-in-Ok-count-clause-counted g c =
    all_counted g.D.Desk.finds c.args.l.now c.args.report.now c.args.config.now c.args.shows.now.column c.in-Ok.verdicts (IfOk-at_ok _ c.in-Ok.is c.in_ok-verdicts.ensures.are)
    (subst IsCompact c.get-profile.ensures.same c.get-profile.ensures.compact) c.requires.countable c.requires.column
    c.in-Ok-count.counted c.in-Ok-count.ensures _ c.in_ok-noted-in-Ok-count.ensures

pub returns-in_ok-noted-in-Ok-count-clause-went : goal.returns-in_ok-noted-in-Ok-count-clause-went
returns-in_ok-noted-in-Ok-count-clause-went g c =
    counts_all g.D.Desk.finds c.args.l.now c.args.report.now c.args.config.now.filtering (showing c.args.shows.now) _ _ _ c.in_ok-verdicts.ensures.went
    c.in-Ok.verdicts c.in-Ok.is c.in_ok-noted-in-Ok-count.field-0
    (all_counted g.D.Desk.finds c.args.l.now c.args.report.now c.args.config.now c.args.shows.now.column c.in-Ok.verdicts (IfOk-at_ok _ c.in-Ok.is c.in_ok-verdicts.ensures.are)
    (subst IsCompact c.get-profile.ensures.same c.get-profile.ensures.compact) c.requires.countable c.requires.column
    c.in-Ok-count.counted c.in-Ok-count.ensures _ c.in_ok-noted-in-Ok-count.ensures).notes
