use Rattle.std.proofs.Common.{sym, ap, subst, ◌∙◌}
use Rattle.pp_model.specs.declared.loaded.Loaded.{Loaded}
use Rattle.pp_model.specs.Sizes.{IsCountable}
use Rattle.std.proofs.lemmas.Result.{err_from_is_err_and, IfOk-weaker}
use Rattle.pp_desk.proofs.Going.{wants}
use Rattle.pp_desk.proofs.AskingLemmas.{asking_second}
use Rattle.pp_pseudo.specs.Basis.{framed_for}
use Rattle.pp_filter.specs.Asked.{filter, filter_loaded, ask_profile_patterns}
use Rattle.pp_filter.specs.Filtered.{saved_of}
use Rattle.pp_filter.proofs.FilterLemmas.{saves}
use Rattle.pp_filter.proofs.filtering.filter.Goals as goal

-- what is filtered can be counted
pub filter_loaded-requires-after_bounds : goal.filter_loaded-requires-after_bounds
filter_loaded-requires-after_bounds g c = λ _ _. subst (λ (l : Loaded). IsCountable l.profile) (sym c.basis.ensures) c.in_ok-framed.ensures.countable

-- what is saved is that of the profile that was loaded
pub returns-clause-saved : goal.returns-clause-saved
returns-clause-saved g c =
    let finds = g.D.Desk.finds in
    let config = c.args.config.now in
    let made_of = c.basis.ensures ∙ c.in_ok-framed.ensures.framed in
    IfOk-weaker c.filter_loaded.result _ _
    (λ q is. saves finds c.args.profile config c.in_ok-l.l q c.in_ok-l.ensures.same c.in_ok-l.ensures.found
    (is ∙ ap (λ (l : Loaded). saved_of finds l config.filtering) made_of))
    c.filter_loaded.ensures.saved

-- the patterns of the profile were asked, and then those of the configuration
pub returns-clause-went : goal.returns-clause-went
unfolding filter
returns-clause-went g c =
    let finds = g.D.Desk.finds in
    let config = c.args.config.now in
    let made_of = c.basis.ensures ∙ c.in_ok-framed.ensures.framed in
    asking_second _ _ (ask_profile_patterns finds c.args.profile) (λ l. filter_loaded finds (framed_for l config.presentation) config.filtering) _ c.in_ok-l.l _ c.in_ok-l.ensures.went
    (rw made_of at c.filter_loaded.ensures.went)

-- the patterns of the profile were asked, and then memory was wanting
pub returns-in_err-framed-clause-went : goal.returns-in_err-framed-clause-went
unfolding filter
returns-in_err-framed-clause-went g c =
    let finds = g.D.Desk.finds in
    let config = c.args.config.now in
    let p = err_from_is_err_and c.from_residual-in_err-framed.result c.from_residual-in_err-framed.ensures.1 in
    rw (p.1, p.2)
    (asking_second _ _ (ask_profile_patterns finds c.args.profile) (λ l. filter_loaded finds (framed_for l config.presentation) config.filtering) _ c.in_ok-l.l _ c.in_ok-l.ensures.went
    (wants _ (filter_loaded finds (framed_for c.in_ok-l.l config.presentation) config.filtering)))
