use Rattle.std.proofs.Common.{◌<◌}
use Rattle.std.proofs.lemmas.List.Elements.{All-push}
use Rattle.pp_count.specs.declared.edge.Edge.{Edge}
use Rattle.pp_rows.proofs.edges.edges_of.Goals as goal

pub loop-from-preserved : goal.loop-from-preserved
loop-from-preserved c =
    rw c.in_ok-push.ensures.ok
    (All-push (λ (e : Edge). (e.from < c.args.names) × (e.to < c.args.names)) _ _ c.loop-from.invariant (c.if-from-names.false, c.if-to-names.false))
