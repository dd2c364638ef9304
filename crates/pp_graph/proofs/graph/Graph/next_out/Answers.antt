use Rattle.pp_graph.specs.declared.slot.Side.TheVariants.{Out}
use Rattle.pp_graph.proofs.Walking.{next_read}
use Rattle.pp_graph.proofs.graph.Graph.next_out.Goals as goal

pub returns : goal.returns
returns c = next_read c.self.inside.spots.items c.self.inside.slots.items c.self.invariant c.args.self.now c.self.view_is Out c.args.e
    c.index.result.now c.requires c.index.ensures
