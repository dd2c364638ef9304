use Rattle.pp_library.proofs.AnswerLemmas.{answer_reported}
use Rattle.pp_library.proofs.reporting.report_at.Goals as goal

-- the answer is what was made
pub returns-clause-went : goal.returns-clause-went
returns-clause-went g c =
    let l = c.args.l.now in
    answer_reported g.M.Matcher.finds l.loaded l.base c.args.report.now c.args.config.now _ _ _ _ _ c.generate-made.result c.answer_of.result c.generate-made.ensures.went c.answer_of.ensures
