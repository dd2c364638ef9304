use Rattle.pp_calltree.proofs.writing.write_calltree.Goals as goal

-- the nodes are those of the report's tree
pub returns-clause-ok : goal.returns-clause-ok
returns-clause-ok g c f holds =
    c.write_path_nodes.ensures.ok c.args.survey.now.v.now c.args.survey.now.column f c.in_ok-nodes.ensures holds
