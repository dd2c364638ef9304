use Rattle.pp_graph.specs.declared.slot.Side.TheVariants.{In}
use Rattle.pp_graph.proofs.Walking.{first_read}
use Rattle.pp_graph.proofs.graph.Graph.first_in.Goals as goal

pub returns : goal.returns
returns c = first_read c.self.inside.spots.items c.self.inside.slots.items c.self.invariant c.args.self.now c.self.view_is In c.args.n
    c.index.result.now c.requires c.index.ensures
