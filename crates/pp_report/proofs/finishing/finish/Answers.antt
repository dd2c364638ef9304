use Rattle.std.proofs.Common.{sym, subst, ◌∙◌}
use Rattle.pp_model.specs.declared.loaded.Loaded.{Loaded}
use Rattle.pp_model.specs.declared.report.Report.{Report}
use Rattle.pp_report.specs.Patterns.{report_finders}
use Rattle.pp_report.specs.Prepared.{showing}
use Rattle.pp_report.specs.Reports.{finish_on}
use Rattle.pp_report.specs.SavedText.{IsProtoBy, IsProtoOf, OnText}
use Rattle.pp_report.proofs.FinishingLemmas.{finish_lacks, finish_uncounted, finish_over, counts_over, over_basis}
use Rattle.pp_report.proofs.finishing.finish.Goals as goal

-- there is no base to compare with
pub returns-then-lacks_base-clause-went : goal.returns-then-lacks_base-clause-went
returns-then-lacks_base-clause-went g c =
    finish_lacks g.D.Desk.finds c.args.l.now c.args.prepared.base c.args.report.now c.args.config.now (showing c.args.prepared.shows) _
    (sym c.lacks_base.ensures ∙ c.if-lacks_base.true)

-- nothing was counted
pub returns-in_default-clause-went : goal.returns-in_default-clause-went
returns-in_default-clause-went g c =
    finish_uncounted g.D.Desk.finds c.args.l.now c.args.report.now c.args.config.now c.args.prepared c.requires c.basis-over.result.now c.basis-over.ensures
    c.in_default.is c.args.prepared.base _ (sym c.lacks_base.ensures ∙ c.if-lacks_base.false) c.comments.result _ c.comments.ensures c.answer_of_text-text.ensures

-- the text is that of the profile that was counted
pub returns-clause-went : goal.returns-clause-went
unfolding finish_on
returns-clause-went g c =
    let finds = g.D.Desk.finds in
    let l = c.args.l.now in
    let report = c.args.report.now in
    let config = c.args.config.now in
    let over = c.basis-over.result.now in
    let own = counts_over finds l report config c.args.prepared c.requires over c.basis-over.ensures c.in-Some.counts c.in-Some.is in
    finish_over finds l report config c.args.prepared c.requires over c.basis-over.ensures c.args.prepared.base _ _ (sym c.lacks_base.ensures ∙ c.if-lacks_base.false)
    c.finish_by-text.result (c.finish_by-text.ensures.went (report_finders finds over report config.filtering) own.holds)

-- what was saved is what the report's own patterns leave of it
pub returns-clause-saved : goal.returns-clause-saved
returns-clause-saved g c proto =
    let finds = g.D.Desk.finds in
    let l = c.args.l.now in
    let report = c.args.report.now in
    let config = c.args.config.now in
    let over = c.basis-over.result.now in
    let own = counts_over finds l report config c.args.prepared c.requires over c.basis-over.ensures c.in-Some.counts c.in-Some.is in
    subst (λ (q : Loaded). OnText c.finish_by-text.result (IsProtoBy finds q config.filtering)) (over_basis finds l report config c.args.prepared c.requires over c.basis-over.ensures)
    (subst (λ (r : Report). OnText c.finish_by-text.result (IsProtoOf over.profile (report_finders finds over r config.filtering) config.filtering)) proto
    (c.finish_by-text.ensures.saved (report_finders finds over report config.filtering) own.holds proto))
