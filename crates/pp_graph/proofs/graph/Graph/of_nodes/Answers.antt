use Rattle.std.proofs.Common.{refl, map, ap}
use Rattle.pp_graph.specs.Slots.{slot_edge}
use Rattle.pp_graph.proofs.Starting.{sound_bare, nodes_bare}
use Rattle.pp_graph.proofs.graph.Graph.of_nodes.Goals as goal

pub invariant_of-result : goal.invariant_of-result
invariant_of-result c = rw (c.in_ok-spots.ensures, c.new.ensures.items) (sound_bare c.args.sums.now _)

pub returns : goal.returns
returns c = record {
  nodes = rw (c.in_ok-spots.ensures, c.new.ensures.items) (nodes_bare c.args.sums.now _ refl c.requires.flats c.requires.cums);
  edges = ap (map slot_edge) c.new.ensures.items;
}
