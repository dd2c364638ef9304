use Rattle.pp_calltree.proofs.CountedPaths.{no_paths}
use Rattle.pp_calltree.proofs.gathering.gather_paths.Goals as goal

pub gather_waves-requires-clause-none : goal.gather_waves-requires-clause-none
gather_waves-requires-clause-none g c = λ _ _. no_paths c.args.scope.now c.none-paths.result c.none-paths.ensures
