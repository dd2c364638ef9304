use Rattle.std.proofs.Common.{refl, subst}
use Rattle.std.specs.Prelude.{Ok}
use Rattle.pp_desk.specs.Script.{Give}
use Rattle.pp_desk.specs.Went.{Went}
use Rattle.pp_desk.proofs.Going.{goes_give}
use Rattle.pp_pattern.specs.Report.{judge}
use Rattle.pp_model.specs.ReportFacts.{own_pattern}
use Rattle.pp_report.specs.Patterns.{of_judged, ask_patterns}
use Rattle.pp_report.proofs.asking.ask_patterns.Goals as goal

-- the verdicts that were given are those of the script
pub returns-in-Ok-clause-went : goal.returns-in-Ok-clause-went
unfolding ask_patterns
returns-in-Ok-clause-went g c =
    let script = judge g.D.Desk.finds c.args.filtering.now (own_pattern c.args.report.now) c.args.l.now.profile in
    let old = g.D.Desk.world c.args.desk.now in
    let new = g.D.Desk.world c.judge.new.desk in
    let went : Went old new script (Ok c.in_ok-verdicts.field-0) = rw (← c.own_pattern.ensures) c.in_ok-verdicts.ensures.went in
    goes_give old new script (λ judged. Give (of_judged judged)) (Ok c.in-Ok.verdicts) (Ok c.in-Ok.verdicts)
    (subst (λ judged. Went old new script (Ok judged)) c.in-Ok.is went) refl
