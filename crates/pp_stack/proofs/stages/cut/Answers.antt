use Rattle.pp_stack.proofs.stages.cut.Goals as goal

-- where there are no tables, each is of its pattern
pub cut_by-requires-clause-tables : goal.cut_by-requires-clause-tables
cut_by-requires-clause-tables c = c.none.ensures c.args.l.now.profile c.args.v.now
