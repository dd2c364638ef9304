use Rattle.pp_count.specs.Counted.{report_samples}
use Rattle.pp_calltree.specs.CallTree.{all_lengths, path_samples}
use Rattle.pp_calltree.proofs.ByKey.{flats_are}
use Rattle.pp_calltree.proofs.WalkLemmas.{walks_over}
use Rattle.pp_calltree.proofs.tree.CallTree.build.Goals as goal

pub returns-clause-tree : goal.returns-clause-tree
returns-clause-tree c = c.in_ok-tree.ensures c.args.survey.now.l.now c.args.survey.now.v.now c.args.survey.now.config.now c.args.survey.now.column c.in_ok-gathered.ensures.same

pub returns-clause-walk : goal.returns-clause-walk
returns-clause-walk c = λ f holds.
    let samples = path_samples c.args.survey.now.l.now.profile f c.args.survey.now.config.now c.args.survey.now.column in
    walks_over c.args.survey.now.l.now.profile _ (all_lengths samples) samples ((c.in_ok-tree.ensures c.args.survey.now.l.now c.args.survey.now.v.now c.args.survey.now.config.now c.args.survey.now.column c.in_ok-gathered.ensures.same).rows f holds)

pub returns-clause-flats : goal.returns-clause-flats
returns-clause-flats c = λ f holds.
    flats_are c.args.survey.now.l.now.profile c.args.survey.now.counted.now.sums _ (report_samples c.args.survey.now.l.now.profile f c.args.survey.now.config.now c.args.survey.now.column) ((c.in_ok-tree.ensures c.args.survey.now.l.now c.args.survey.now.v.now c.args.survey.now.config.now c.args.survey.now.column c.in_ok-gathered.ensures.same).rows f holds) (c.args.survey.now.counts.sums_are f holds)
