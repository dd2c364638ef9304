use Rattle.std.proofs.Common.{List, ◌++◌}
use Rattle.pp_steal.specs.Pieces.{IsCutInto}
use Rattle.pp_steal.proofs.PieceLemmas.{AreAppended}
use Rattle.pp_steal.proofs.piecewise.append_all.Given as goal

-- the parts so far are appended
abbrev pub invariant-loop-part : goal.invariant-loop-part
invariant-loop-part g l = (xs ys : List g.row.T.Denot) → g.W.Piecewise.right l.work xs l.fn.front → IsCutInto (g.W.Piecewise.right l.work) ys l.fn.parts
    → AreAppended (g.W.Piecewise.right l.work) (xs ++ ys) l.all l.part-iterator.rest.items
