use Rattle.std.proofs.Common.{map, w64}
use Rattle.std.specs.List.{flat_map}
use Rattle.std.proofs.lemmas.Int.{to_z-of_z}
use Rattle.pp_base.proofs.TextLemmas.{joined_four}
use Rattle.pp_units.specs.Words.{shown}
use Rattle.pp_count.specs.Table.{written_key}
use Rattle.pp_graph.specs.KeyRows.{row_at}
use Rattle.pp_tree.specs.Nodes.{near_text, itself_text, node_separator}
use Rattle.pp_tree.specs.Tree.{near_of}
use Rattle.pp_tree.specs.Ends.{cum_weight, callers_in, callees_in}
use Rattle.pp_tree.proofs.nodes.put_node.Goals as goal

pub returns : goal.returns
returns c = λ pairs shows.
    joined_four c.put_separator.result c.args.out.now c.put_callers.new.out c.put_itself.new.out c.put_callees.new.out c.put_separator.new.out
    (flat_map (near_text (shown c.args.table.now.head.now.unit) (cum_weight c.args.table.now.sums.now c.args.number)) (map near_of (callers_in pairs (written_key c.args.table.now.p.now c.args.table.now.sums.now.names c.args.number))))
    (itself_text (shown c.args.table.now.head.now.unit) c.args.table.now.head.now.total c.args.sum (row_at c.args.table.now.p.now c.args.table.now.sums.now c.args.number))
    (flat_map (near_text (shown c.args.table.now.head.now.unit) (cum_weight c.args.table.now.sums.now c.args.number)) (map near_of (callees_in pairs (written_key c.args.table.now.p.now c.args.table.now.sums.now.names c.args.number))))
    node_separator
    (c.in_ok-put_callers.ensures pairs shows) (rw (to_z-of_z w64 c.args.sum c.ranges.sum) at c.in_ok-put_itself.ensures) (c.in_ok-put_callees.ensures pairs shows) c.put_separator.ensures
