use Rattle.std.proofs.Common.{◌≡◌, map, take}
use Rattle.pp_graph.specs.KeyRows.{row_at}
use Rattle.pp_library.specs.Figures.{figure_of}
use Rattle.pp_library.proofs.tabling.rows_of.Given as goal

-- the rows so far
abbrev pub invariant-loop-number : goal.invariant-loop-number
invariant-loop-number l = l.rows ≡ map (λ n. figure_of (row_at l.l.profile l.sums n)) (take l.number-index l.order)
