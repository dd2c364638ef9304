use Rattle.std.proofs.Common.{rules}
use Rattle.pp_engine.proofs.Runs.{runs}
use Rattle.pp_engine.proofs.running.run.Goals as goal

-- what is known of the session's desk is known of its objects
pub returns-clause-runs : goal.returns-clause-runs
returns-clause-runs g c = runs _ _ _ _ _ (search rules) (search rules) (search rules) (search rules)
