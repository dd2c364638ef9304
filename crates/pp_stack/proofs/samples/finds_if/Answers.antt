use Rattle.pp_stack.proofs.samples.finds_if.Goals as goal

-- the pattern is in force
pub finds_sample-requires-clause-table : goal.finds_sample-requires-clause-table
finds_sample-requires-clause-table c = c.requires.table c.in-Some.found c.in-Some.is
