use Rattle.pp_calltree.proofs.tree.PathNodes.build.Goals as goal

pub returns : goal.returns
returns g c =
    let s = c.args.survey.now in
    c.of.ensures s.l.now s.v.now s.config.now s.column c.in_ok-gathered.ensures.same
