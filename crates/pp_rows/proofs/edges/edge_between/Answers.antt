use Rattle.std.proofs.Common.{◌∙◌, sym, arith}
use Rattle.pp_graph.specs.Links.{out_at}
use Rattle.pp_rows.proofs.Walked.{live}
use Rattle.pp_rows.proofs.edges.edge_between.Goals as goal

pub edge-edge-requires : goal.edge-edge-requires
edge-edge-requires c =
    live c.args.graph.now (λ e. e.from) c.args.from (out_at c.args.graph.now c.args.from)
    (λ e. c.nodes.ensures.linked.out c.args.from e (omega (arith, c.if-from-nodes.false, c.nodes.ensures.nodes)))
    c.loop-step.step c.in-Some.number (sym c.loop-step.invariant ∙ c.in-Some.is)
