use Rattle.std.proofs.Common.{cond, [], ◌∷◌, sym, subst}
use Rattle.pp_count.specs.Counts.{filtered_samples}
use Rattle.pp_count.specs.Totals.{AreTotals}
use Rattle.pp_count.proofs.total.totals_of.Goals as goal

-- the sample counts where the filters leave it
pub returns-in-None : goal.returns-in-None
returns-in-None c = λ none f holds.
    let p = c.args.scope.now.l.now.profile in
    let config = c.args.scope.now.config.now in
    let column = c.args.scope.now.column in
    let s = c.args.s.now in
    subst (λ r. AreTotals p config.presentation column (cond r (filtered_samples p f config.filtering (s ∷ [])) (s ∷ [])) c.totals_if.result) (sym c.if-scope.true)
    (subst (λ b. AreTotals p config.presentation column (cond b (s ∷ []) []) c.totals_if.result) (sym (c.requires.left f holds)) c.totals_if.ensures)

-- it counts always
pub returns-in-None-2 : goal.returns-in-None-2
returns-in-None-2 c = λ none f holds.
    let p = c.args.scope.now.l.now.profile in
    let config = c.args.scope.now.config.now in
    let column = c.args.scope.now.column in
    let s = c.args.s.now in
    subst (λ r. AreTotals p config.presentation column (cond r (filtered_samples p f config.filtering (s ∷ [])) (s ∷ [])) c.sample_totals.result) (sym c.if-scope.false) c.sample_totals.ensures
