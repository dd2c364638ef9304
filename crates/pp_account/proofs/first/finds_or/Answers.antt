use Rattle.pp_account.proofs.first.finds_or.Goals as goal

-- the pattern is in force
pub finds_some-requires-clause-table : goal.finds_some-requires-clause-table
finds_some-requires-clause-table c = c.requires.table c.in-Some.found c.in-Some.is
