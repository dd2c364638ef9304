use Rattle.std.proofs.Common.{◌≡◌, map, take}
use Rattle.pp_count.specs.Edges.{edge_of_sum}
use Rattle.pp_count.proofs.recounting.edges_of.Given as goal

-- the edges of the first sums
abbrev pub invariant-loop-sum : goal.invariant-loop-sum
invariant-loop-sum l = l.edges ≡ map (edge_of_sum l.kept) (take l.sum-index l.sums)
