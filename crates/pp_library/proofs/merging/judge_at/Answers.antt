use Rattle.pp_library.proofs.MergeLemmas.{went_judged}
use Rattle.pp_library.proofs.merging.judge_at.Goals as goal

-- the answer is the profile with what its patterns find
pub returns-clause-went : goal.returns-clause-went
returns-clause-went g c =
    went_judged g.M.Matcher.finds c.args.profile _ _ _ _ c.judge_load-judged.result c.answer_of.result c.judge_load-judged.ensures.went c.answer_of.ensures.is
