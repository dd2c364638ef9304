use Rattle.std.proofs.Common.{◌≡◌, sym, ap, ◌∙◌, ◌++◌, ◌∷◌, [], arith}
use Rattle.std.proofs.lemmas.List.FromFn.{map-range_with_len_more}
use Rattle.pp_graph.specs.Slots.{bare_spot}
use Rattle.pp_graph.proofs.graph.bare_spots.Goals as goal

pub loop-name-preserved : goal.loop-name-preserved
loop-name-preserved c =
    let here = c.bare_spot.ensures in
    let more = map-range_with_len_more (bare_spot c.args.sums.now) 0 c.loop-name.name c.loop-name.name (omega arith) in
    grind (arith, c.in_ok-push.ensures.items)
