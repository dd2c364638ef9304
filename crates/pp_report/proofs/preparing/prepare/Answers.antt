use Rattle.std.proofs.Common.{◌≡◌, true, false, refl, rules, sym, ap, ◌∙◌, subst}
use Rattle.std.specs.Prelude.{Err}
use Rattle.std.specs.Result.{result_map_both}
use Rattle.std.proofs.lemmas.Result.{err_from_is_err_and, IfOk-at_ok}
use Rattle.pp_desk.proofs.Going.{wants}
use Rattle.pp_model.specs.declared.loaded.Loaded.{Loaded}
use Rattle.pp_model.specs.Conditions.{IsColumnOf}
use Rattle.pp_model.specs.ReportFacts.{is_counted}
use Rattle.pp_report.specs.declared.refusal.ReportRefusal.{ReportRefusal}
use Rattle.pp_report.specs.Prepared.{showing}
use Rattle.pp_report.specs.Tagged.{basis_of}
use Rattle.pp_report.proofs.PreparingLemmas.{prepare_refused, prepare_uncounted, prepare_counted, basis_counted, none_prepared, counts_prepared}
use Rattle.pp_report.proofs.TypesLemmas.{basis_shows, basis_types, same_bound}
use Rattle.pp_report.proofs.preparing.prepare.Goals as goal

-- memory was wanting
pub returns-in_err-shows-clause-went : goal.returns-in_err-shows-clause-went
returns-in_err-shows-clause-went g c =
    let p = err_from_is_err_and c.from_residual.result c.from_residual.ensures.1 in rw (p.1, p.2) (wants _ _)

pub returns-in-Err-framed_for-clause-went : goal.returns-in-Err-framed_for-clause-went
returns-in-Err-framed_for-clause-went g c = wants _ _

-- it is refused at once
pub returns-in-Err-clause-went : goal.returns-in-Err-clause-went
returns-in-Err-clause-went g c =
    prepare_refused g.D.Desk.finds (basis_of c.args.report.now c.args.l.now c.args.config.now.presentation) c.args.report.now c.args.config.now _ c.in-Err.refusal
    (ap (result_map_both showing (λ (r : ReportRefusal). r)) (sym c.in-Err.is) ∙ c.in_ok-shows.ensures.value ∙ sym (basis_shows c.args.l.now c.args.report.now c.args.config.now.presentation))

-- a report that isn't counted asks for nothing
pub returns-then-not-is_counted-clause-went : goal.returns-then-not-is_counted-clause-went
returns-then-not-is_counted-clause-went g c =
    let none : is_counted c.args.report.now ≡ false = search rules in
    let known = ap (result_map_both showing (λ (r : ReportRefusal). r)) (sym c.in-Ok.is) ∙ c.in_ok-shows.ensures.value ∙ sym (basis_shows c.args.l.now c.args.report.now c.args.config.now.presentation) in
    rw c.new.ensures (prepare_uncounted g.D.Desk.finds (basis_of c.args.report.now c.args.l.now c.args.config.now.presentation) c.args.report.now c.args.config.now _ (showing c.in-Ok.shows) none known)

pub returns-then-not-is_counted-clause-prepared : goal.returns-then-not-is_counted-clause-prepared
returns-then-not-is_counted-clause-prepared g c =
    let none : is_counted c.args.report.now ≡ false = search rules in
    let known = ap (result_map_both showing (λ (r : ReportRefusal). r)) (sym c.in-Ok.is) ∙ c.in_ok-shows.ensures.value ∙ sym (basis_shows c.args.l.now c.args.report.now c.args.config.now.presentation) in
    rw c.new.ensures (none_prepared g.D.Desk.finds c.args.l.now c.args.report.now c.args.config.now c.in-Ok.shows known _ none c.args.base refl)

-- frames leave the sample types
pub counts_for-requires-clause-column : goal.counts_for-requires-clause-column
counts_for-requires-clause-column g c = λ _ _.
    let yes : is_counted c.args.report.now ≡ true = search rules in
    let over = c.basis.ensures ∙ c.in-Ok-framed_for.ensures.framed ∙ basis_counted c.args.l.now c.args.report.now c.args.config.now.presentation yes in
    subst (λ (q : Loaded). IsColumnOf q.profile c.in-Ok.shows.column) (sym over)
    (same_bound c.args.l.now.profile (basis_of c.args.report.now c.args.l.now c.args.config.now.presentation).profile
    (basis_types c.args.l.now c.args.report.now c.args.config.now.presentation) c.in-Ok.shows.column (IfOk-at_ok _ c.in-Ok.is c.in_ok-shows.ensures.bound))

-- all was counted over the profile with the frames
pub returns-in-Ok-Ok-clause-went : goal.returns-in-Ok-Ok-clause-went
returns-in-Ok-Ok-clause-went g c =
    let yes : is_counted c.args.report.now ≡ true = search rules in
    let known = ap (result_map_both showing (λ (r : ReportRefusal). r)) (sym c.in-Ok.is) ∙ c.in_ok-shows.ensures.value ∙ sym (basis_shows c.args.l.now c.args.report.now c.args.config.now.presentation) in
    let over = c.basis.ensures ∙ c.in-Ok-framed_for.ensures.framed ∙ basis_counted c.args.l.now c.args.report.now c.args.config.now.presentation yes in
    prepare_counted g.D.Desk.finds (basis_of c.args.report.now c.args.l.now c.args.config.now.presentation) c.args.report.now c.args.config.now _ over _ _ (showing c.in-Ok.shows) _
    yes known (rw c.in-Ok-Ok.field-0-is at c.in-Ok-Ok.ensures.went)

pub returns-in-Ok-Ok-clause-prepared : goal.returns-in-Ok-Ok-clause-prepared
returns-in-Ok-Ok-clause-prepared g c =
    let yes : is_counted c.args.report.now ≡ true = search rules in
    let known = ap (result_map_both showing (λ (r : ReportRefusal). r)) (sym c.in-Ok.is) ∙ c.in_ok-shows.ensures.value ∙ sym (basis_shows c.args.l.now c.args.report.now c.args.config.now.presentation) in
    let over = c.basis.ensures ∙ c.in-Ok-framed_for.ensures.framed ∙ basis_counted c.args.l.now c.args.report.now c.args.config.now.presentation yes in
    counts_prepared g.D.Desk.finds c.args.l.now c.args.report.now c.args.config.now c.in-Ok.shows known _ c.basis.result.now over c.in-Ok-framed_for.tagged c.basis.ensures c.args.base
    (c.in-Ok-Ok.counts, c.in-Ok-Ok.notes) (IfOk-at_ok _ c.in-Ok-Ok.field-0-is c.in-Ok-Ok.ensures.counted) refl

-- a pattern was refused over it
pub returns-in-Ok-Err-clause-went : goal.returns-in-Ok-Err-clause-went
returns-in-Ok-Err-clause-went g c =
    let yes : is_counted c.args.report.now ≡ true = search rules in
    let known = ap (result_map_both showing (λ (r : ReportRefusal). r)) (sym c.in-Ok.is) ∙ c.in_ok-shows.ensures.value ∙ sym (basis_shows c.args.l.now c.args.report.now c.args.config.now.presentation) in
    let over = c.basis.ensures ∙ c.in-Ok-framed_for.ensures.framed ∙ basis_counted c.args.l.now c.args.report.now c.args.config.now.presentation yes in
    prepare_counted g.D.Desk.finds (basis_of c.args.report.now c.args.l.now c.args.config.now.presentation) c.args.report.now c.args.config.now _ over _ _ (showing c.in-Ok.shows) _
    yes known (rw c.in-Ok-Err.field-0-is at c.in-Ok-Err.ensures.went)

-- it was stopped over it
pub returns-in-Err-counts_for-clause-went : goal.returns-in-Err-counts_for-clause-went
returns-in-Err-counts_for-clause-went g c =
    let yes : is_counted c.args.report.now ≡ true = search rules in
    let known = ap (result_map_both showing (λ (r : ReportRefusal). r)) (sym c.in-Ok.is) ∙ c.in_ok-shows.ensures.value ∙ sym (basis_shows c.args.l.now c.args.report.now c.args.config.now.presentation) in
    let over = c.basis.ensures ∙ c.in-Ok-framed_for.ensures.framed ∙ basis_counted c.args.l.now c.args.report.now c.args.config.now.presentation yes in
    prepare_counted g.D.Desk.finds (basis_of c.args.report.now c.args.l.now c.args.config.now.presentation) c.args.report.now c.args.config.now _ over _ _ (showing c.in-Ok.shows)
    (Err c.in-Err-counts_for.stop) yes known c.in-Err-counts_for.ensures.went
