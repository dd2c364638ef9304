use Rattle.std.proofs.Common.{sym, subst}
use Rattle.pp_steal.specs.Pool.{TakesPart}
use Rattle.pp_steal.proofs.Keeps.{takes, finds}
use Rattle.pp_steal.proofs.chair.Chair.steal.Goals as goal

pub steal_as-requires-clause-takes : goal.steal_as-requires-clause-takes
steal_as-requires-clause-takes c = takes _ _ (subst TakesPart (sym c.requires.guest) tt)

pub steal_as-requires-clause-empty : goal.steal_as-requires-clause-empty
steal_as-requires-clause-empty c = λ items views _. finds _ _ items views (subst TakesPart (sym c.requires.guest) tt)
