use Rattle.pp_stack.proofs.stages.retain_if.Goals as goal

-- the pattern is in force
pub retain-requires-clause-table : goal.retain-requires-clause-table
retain-requires-clause-table c = c.requires.table c.in-Some.found c.in-Some.is
