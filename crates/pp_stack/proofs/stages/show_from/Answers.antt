use Rattle.pp_stack.proofs.stages.show_from.Goals as goal

-- where there are no tables, each is of its pattern
pub show_from_by-requires-clause-tables : goal.show_from_by-requires-clause-tables
show_from_by-requires-clause-tables c = c.none.ensures c.args.l.now.profile c.args.v.now
