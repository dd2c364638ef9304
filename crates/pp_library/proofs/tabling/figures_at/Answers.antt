use Rattle.pp_report.specs.Prepared.{answered}
use Rattle.pp_library.proofs.FigureLemmas.{went_figures}
use Rattle.pp_library.proofs.tabling.figures_at.Goals as goal

-- the answer is what was settled
pub returns-clause-went : goal.returns-clause-went
returns-clause-went g c =
    went_figures g.M.Matcher.finds c.args.l.now.loaded c.args.config.now _ _ _ _ (answered c.prepare-prepared.result) c.answer_of.result c.prepare-prepared.ensures.went c.answer_of.ensures.is
