use Rattle.std.proofs.Common.{pos, slice_index_or}
use Rattle.pp_units.specs.Words.{shown}
use Rattle.pp_graph.proofs.Running.{Summing, Putting}
use Rattle.pp_tree.specs.Nodes.{Node, node_text}
use Rattle.pp_tree.specs.Ends.{Pairs, ShowsPairs, node_at}
use Rattle.pp_tree.proofs.nodes.put_nodes.Given as goal

-- the nodes so far have their lines, and the sum leaves room for the flats that are left
abbrev pub invariant-loop-number : goal.invariant-loop-number
invariant-loop-number l = record {
  summing : Summing (λ n. slice_index_or l.table.sums.now.flat n (pos 0)) l.order l.number-index l.sum;
  putting : (pairs : Pairs) → ShowsPairs l.table.p.now l.table.sums.now.names l.table.graph.now pairs
      → Putting (λ (node : Node). node.row.flat) (node_text (shown l.table.head.now.unit) l.table.head.now.total) (node_at l.table.p.now l.table.sums.now pairs) l.order l.initial.out l.number-index l.sum l.out;
}
