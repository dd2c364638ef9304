use Rattle.std.proofs.Common.{◌∙◌, w64, FitsSigned, to_z, of_z, rules}
use Rattle.std.proofs.lemmas.Int.{to_z-of_z}
use Rattle.pp_base.proofs.TextLemmas.{appended}
use Rattle.pp_units.specs.Head.{facts}
use Rattle.pp_top.proofs.ComparedRanking.{ranked_is}
use Rattle.pp_top.proofs.compare.write_compare.Goals as goal

pub returns-clause-ok : goal.returns-clause-ok
returns-clause-ok c = λ limit f ranked holds base.
    let whole : FitsSigned w64 c.counted_whole-change.result = search rules in
    appended c.append.result c.append.new.self c.args.out.now c.put_compare.new.out _
    (rw c.new-text.ensures at c.in_ok-put_compare.ensures
    ∙ ranked_is c.args.survey.now.l.now c.args.survey.now.v.now c.args.survey.now.config.now c.args.survey.now.column limit f c.args.survey.now.counted.now c.args.base.now (to_z w64 (of_z w64 c.counted_whole-change.result)) c.args.t.now (facts c.args.head.now)
    c.args.survey.now.can c.args.survey.now.counts ranked holds base (to_z-of_z w64 c.counted_whole-change.result whole ∙ c.counted_whole-change.ensures f holds)) c.append.ensures.ok
