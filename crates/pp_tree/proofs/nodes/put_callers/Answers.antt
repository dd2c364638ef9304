use Rattle.std.proofs.Common.{map, ap, ◌∙◌}
use Rattle.std.specs.List.{flat_map}
use Rattle.pp_units.specs.Words.{shown}
use Rattle.pp_count.specs.Table.{written_key}
use Rattle.pp_base.proofs.TextLemmas.{put_is}
use Rattle.pp_tree.specs.Nodes.{near_text}
use Rattle.pp_tree.specs.Tree.{near_of}
use Rattle.pp_tree.specs.Ends.{cum_weight, callers_in, neighbour_of}
use Rattle.pp_tree.proofs.nodes.put_callers.Goals as goal

pub returns : goal.returns
returns c = λ pairs shows.
    put_is c.put_nears.result c.put_nears.new.out c.args.out.now
    (flat_map (near_text (shown c.args.table.now.head.now.unit) c.cum_size-whole.result) (map near_of (map neighbour_of c.as_slice.result.now)))
    (flat_map (near_text (shown c.args.table.now.head.now.unit) (cum_weight c.args.table.now.sums.now c.args.number)) (map near_of (callers_in pairs (written_key c.args.table.now.p.now c.args.table.now.sums.now.names c.args.number))))
    (λ i. flat_map (near_text (shown c.args.table.now.head.now.unit) (c.cum_size-whole.ensures i)) (map near_of ((ap (map neighbour_of) c.as_slice.ensures.value ∙ c.in_ok-nears.ensures pairs shows) i)))
    c.put_nears.ensures
