use Rattle.std.proofs.Common.{◌≡◌, subst}
use Rattle.std.proofs.lemmas.Result.{err_from_is_err_and}
use Rattle.pp_desk.proofs.Going.{wants}
use Rattle.pp_desk.proofs.AskingLemmas.{asking_second, asking_gives}
use Rattle.pp_model.specs.Rules.{IsCompact}
use Rattle.pp_filter.specs.Asked.{filter_loaded, ask_option_patterns}
use Rattle.pp_filter.specs.Filtered.{own_finders, saved_of}
use Rattle.pp_filter.proofs.FilterLemmas.{filter_holds, can_save}
use Rattle.pp_filter.proofs.filtering.filter_loaded.Goals as goal

-- the samples can be counted by the verdicts
pub save-requires-after_bounds : goal.save-requires-after_bounds
save-requires-after_bounds g c = λ _ _. can_save g.D.Desk.finds c.args.l.now c.args.config.now.filtering c.in_ok-v.v c.in_ok-v.ensures.found c.requires

-- they are what the patterns find, so that is saved which these leave
pub returns-clause-saved : goal.returns-clause-saved
returns-clause-saved g c =
    c.in_ok-saved.ensures (own_finders g.D.Desk.finds c.args.l.now c.args.config.now.filtering)
    (filter_holds g.D.Desk.finds c.args.l.now c.args.config.now.filtering c.in_ok-v.v c.in_ok-v.ensures.found (subst IsCompact c.get-profile.ensures.same c.get-profile.ensures.compact))

-- the patterns were asked, and this is what comes of it
pub returns-clause-went : goal.returns-clause-went
unfolding filter_loaded
returns-clause-went g c =
    let finds = g.D.Desk.finds in
    let l = c.args.l.now in
    let config = c.args.config.now in
    let is : c.in_ok-saved.saved ≡ saved_of finds l config.filtering = returns-clause-saved g c in
    asking_second _ _ (ask_option_patterns finds l config.filtering) _ _ c.in_ok-v.v _ c.in_ok-v.ensures.went (rw is (asking_gives _ (saved_of finds l config.filtering)))

-- the patterns were asked, and then memory was wanting
pub returns-in_err-saved-clause-went : goal.returns-in_err-saved-clause-went
unfolding filter_loaded
returns-in_err-saved-clause-went g c =
    let p = err_from_is_err_and c.from_residual-in_err-saved.result c.from_residual-in_err-saved.ensures.1 in
    rw (p.1, p.2)
    (asking_second _ _ (ask_option_patterns g.D.Desk.finds c.args.l.now c.args.config.now.filtering) _ _ c.in_ok-v.v _ c.in_ok-v.ensures.went (wants _ _))
