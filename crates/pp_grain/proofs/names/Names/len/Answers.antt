use Rattle.std.proofs.lemmas.Map.Made.{AllPairs-from_IsDistinct}
use Rattle.pp_grain.proofs.SightLemmas.{key_decides}
use Rattle.pp_grain.proofs.names.Names.len.Goals as goal

pub returns-clause-distinct : goal.returns-clause-distinct
returns-clause-distinct c = rw (← c.self.view_is) (AllPairs-from_IsDistinct key_decides _ c.len.ensures.unique)
