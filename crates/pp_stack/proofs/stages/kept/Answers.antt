use Rattle.pp_stack.proofs.stages.kept.Goals as goal

-- where there are no tables, each is of its pattern
pub kept_by-requires-clause-tables : goal.kept_by-requires-clause-tables
kept_by-requires-clause-tables c = c.none.ensures c.args.l.now.profile c.args.v.now
