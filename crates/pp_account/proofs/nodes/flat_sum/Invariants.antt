use Rattle.pp_graph.specs.Ranks.{sum_of_name}
use Rattle.pp_graph.proofs.Summing.{Summing}
use Rattle.pp_account.proofs.nodes.flat_sum.Given as goal

abbrev pub invariant-loop-number : goal.invariant-loop-number
invariant-loop-number l = Summing (sum_of_name l.flats) l.numbers l.number-index l.sum
