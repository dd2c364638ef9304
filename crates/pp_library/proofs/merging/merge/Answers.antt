use Rattle.std.proofs.Common.{◌∙◌, ap, sym, subst, rules}
use Rattle.std.specs.Prelude.{Result, Err}
use Rattle.std.proofs.lemmas.Result.{err_from_is_err_and}
use Rattle.pp_library.specs.declared.countable.Countable.{Countable}
use Rattle.pp_library.specs.declared.merge_error.MergeError.{MergeError}
use Rattle.pp_desk.specs.Words.{Asked}
use Rattle.pp_library.specs.Merged.{merge_all, merge_outcome}
use Rattle.pp_library.proofs.MergeLemmas.{merge_goes, merge_refused}
use Rattle.pp_library.proofs.merging.merge.Goals as goal

-- the profiles did not merge
pub returns-in_err-profile-clause-went : goal.returns-in_err-profile-clause-went
returns-in_err-profile-clause-went g c = λ few.
    let p = err_from_is_err_and c.from_residual.result c.from_residual.ensures.1 in
    let answers = g.M.Matcher.answers c.args.matcher.now in
    subst (λ (r : Result Countable MergeError). Asked answers answers (merge_all g.M.Matcher.finds c.args.profiles) (merge_outcome r)) (sym (p.1 ∙ ap (λ e. Err e) p.2))
    (merge_refused g.M.Matcher.finds c.args.profiles answers c.in_err-profile.field-0.0 c.requires c.in_err-profile.ensures.merges)

-- they did, and the patterns were asked
pub returns-clause-went : goal.returns-clause-went
returns-clause-went g c = λ few.
    merge_goes g.M.Matcher.finds c.args.profiles c.in_ok-profile.profile _ _ _ c.requires c.in_ok-profile.ensures.merges
    (let went = c.judge_at.ensures.went in search (rules, went))
