use Rattle.pp_steal.proofs.Keeps.{pushes}
use Rattle.pp_steal.proofs.make.deal_one.Goals as goal

pub push_as-requires-clause-pushes : goal.push_as-requires-clause-pushes
push_as-requires-clause-pushes c = pushes _ _ _ c.requires.unmarked c.requires.above
