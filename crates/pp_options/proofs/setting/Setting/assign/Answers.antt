use Rattle.std.proofs.Common.{ap, ◌∙◌, sym, rules, w32, FitsSigned}
use Rattle.std.proofs.lemmas.Int.{to_z-of_z}
use Rattle.pp_model.specs.declared.presentation.Presentation.{Presentation}
use Rattle.pp_model.specs.declared.environment.Environment.{Environment}
use Rattle.pp_options.specs.Settings.{assigned}
use Rattle.pp_options.proofs.SettingLemmas.{nodecount_is, divisor_is, workers_is, presented}
use Rattle.pp_options.proofs.setting.Setting.assign.Goals as goal

-- the number of rows is from -1 on
pub returns-in-Nodecount : goal.returns-in-Nodecount
unfolding assigned
returns-in-Nodecount c =
    let fits : FitsSigned w32 c.in-Nodecount.rows = search rules in
    ap (λ (s : Presentation). record c.args.config.now { presentation = s })
    (nodecount_is c.args.config.now.presentation c.in-Nodecount.rows _ (to_z-of_z w32 _ fits) (rw c.in-Nodecount.is at c.requires) _ _ _)
    ∙ ap (assigned c.args.config.now) (sym c.in-Nodecount.is)

-- the divisor is from 1 to 2^63-1
pub returns-in-DivideBy : goal.returns-in-DivideBy
unfolding assigned
returns-in-DivideBy c =
    ap (λ (s : Presentation). record c.args.config.now { presentation = s })
    (divisor_is c.args.config.now.presentation c.in-DivideBy.divisor (rw c.in-DivideBy.is at c.requires) _ _ _)
    ∙ ap (assigned c.args.config.now) (sym c.in-DivideBy.is)

-- there are 1 to 64 workers
pub returns-in-Workers : goal.returns-in-Workers
unfolding assigned
returns-in-Workers c =
    ap (λ (e : Environment). record c.args.config.now { environment = e })
    (workers_is c.args.config.now.environment c.in-Workers.workers (rw c.in-Workers.is at c.requires) _ _)
    ∙ ap (assigned c.args.config.now) (sym c.in-Workers.is)

-- another order
pub returns-in-Sort : goal.returns-in-Sort
unfolding assigned
returns-in-Sort c =
    presented c.args.config.now (record c.args.config.now.presentation { sort = c.in-Sort.sort }) _ _ _
    ∙ ap (assigned c.args.config.now) (sym c.in-Sort.is)
