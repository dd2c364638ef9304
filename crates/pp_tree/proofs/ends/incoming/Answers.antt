use Rattle.std.proofs.Common.{◌≡◌, ◌∙◌, sym, length, w64, FitsSigned, rules, arith}
use Rattle.std.proofs.lemmas.Int.{to_z-of_z}
use Rattle.std.proofs.lemmas.Option.{slice_get_within}
use Rattle.pp_graph.specs.Links.{in_at}
use Rattle.pp_tree.specs.Ends.{caller_end, neighbour_of}
use Rattle.pp_tree.proofs.Walks.{live, ends_below, next_at, walked_more, walked_all}
use Rattle.pp_tree.proofs.ends.incoming.Goals as goal

pub edge-edge-requires : goal.edge-edge-requires
edge-edge-requires c =
    live c.args.graph.now (λ e. e.to) c.args.node (in_at c.args.graph.now c.args.node)
    (λ e. c.requires.walk.linked.into c.args.node e (omega (arith, c.requires.below, c.requires.walk.nodes.count)))
    (length c.loop-next.nears.items) c.in-Some.number (sym c.loop-next.invariant.at ∙ c.in-Some.is)

pub near_at-requires-clause-below : goal.near_at-requires-clause-below
near_at-requires-clause-below c =
    (ends_below c.args.graph.now (length c.args.sums.now.names) c.in-Some.number c.edge-edge.result c.requires.walk.linked c.requires.walk.nodes.count c.edge-edge.ensures).0

pub loop-next-smaller : goal.loop-next-smaller
loop-next-smaller c =
    let within = slice_get_within (in_at c.args.graph.now c.args.node) (length c.loop-next.nears.items) c.in-Some.number (sym c.loop-next.invariant.at ∙ c.in-Some.is) in
    omega (arith, within, c.in_ok-push.ensures.len)

pub loop-next-preserved : goal.loop-next-preserved
loop-next-preserved c =
    let at = sym c.loop-next.invariant.at ∙ c.in-Some.is in
    let fits : FitsSigned w64 c.edge-edge.result.value = search rules in
    let whole = c.near_at.ensures.value ∙ to_z-of_z w64 c.edge-edge.result.value fits in
    let is : neighbour_of c.near_at.result ≡ caller_end c.args.p.now c.args.sums.now.names c.edge-edge.result =
    λ i. record { key = c.near_at.ensures.key i; value = whole i } in
    record {
      at = next_at (in_at c.args.graph.now c.args.node) c.next_in-next.result c.loop-next.nears.items c.push.new.self.items c.near_at.result c.in_ok-push.ensures.items
          (c.next_in-next.ensures c.args.node (length c.loop-next.nears.items) at);
      so_far = walked_more c.args.graph.now (in_at c.args.graph.now c.args.node) (caller_end c.args.p.now c.args.sums.now.names) c.loop-next.nears.items c.push.new.self.items c.near_at.result
          c.in-Some.number c.edge-edge.result at c.edge-edge.ensures is c.in_ok-push.ensures.items c.loop-next.invariant.so_far;
    }

pub returns : goal.returns
returns c =
    walked_all c.args.graph.now (in_at c.args.graph.now c.args.node) (caller_end c.args.p.now c.args.sums.now.names) c.loop-next.nears.items
    (sym c.in_default.is ∙ c.loop-next.invariant.at) c.loop-next.invariant.so_far
