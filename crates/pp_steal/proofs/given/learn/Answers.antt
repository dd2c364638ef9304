use Rattle.std.proofs.Common.{[]}
use Rattle.pp_steal.proofs.Keeps.{takes, pops, finds}
use Rattle.pp_steal.proofs.Closing.{live_at, learned}
use Rattle.pp_steal.proofs.given.learn.Goals as goal

pub pop_as-requires-clause-fifo : goal.pop_as-requires-clause-fifo
pop_as-requires-clause-fifo c = λ _. takes _ _ (live_at _ c.requires)

pub pop_as-requires-clause-lifo : goal.pop_as-requires-clause-lifo
pop_as-requires-clause-lifo c = λ _. pops _ _ (live_at _ c.requires)

pub pop_as-requires-clause-empty : goal.pop_as-requires-clause-empty
pop_as-requires-clause-empty c = λ views. finds _ _ [] views (live_at _ c.requires)

pub returns : goal.returns
returns c = learned _ _ c.pop_as.result c.pop_as.ensures.rule
