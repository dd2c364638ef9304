use Rattle.std.proofs.Common.{◌∙◌, sym, arith}
use Rattle.pp_graph.specs.Links.{out_at}
use Rattle.pp_rows.proofs.Walked.{live}
use Rattle.pp_rows.proofs.edges.are_callees.Goals as goal

pub edge-requires : goal.edge-requires
edge-requires c =
    live c.args.graph.now (λ e. e.from) c.args.node (out_at c.args.graph.now c.args.node)
    (λ e. c.nodes.ensures.linked.out c.args.node e (omega (arith, c.if-node-nodes.false, c.nodes.ensures.nodes)))
    c.loop-place.place c.in-Some.number (sym c.loop-place.invariant ∙ c.in-Some.is)
