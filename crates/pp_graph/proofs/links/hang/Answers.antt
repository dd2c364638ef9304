use Rattle.std.proofs.Common.{◌≡◌, sym, subst, rules}
use Rattle.pp_graph.proofs.Adding.{out_place, in_place, sound_added, nodes_added, edges_added}
use Rattle.pp_graph.proofs.links.hang.Goals as goal

pub link-requires : goal.link-requires
link-requires c =
    let n = c.requires in
    rw (n.slots_are, n.last) (out_place c.args.spots.now n.before n.sound n.edge n.from n.to)

pub link-requires-2 : goal.link-requires-2
link-requires-2 c =
    let n = c.requires in
    rw (c.link.ensures.spots, c.link.ensures.slots, n.slots_are, n.last) (in_place c.args.spots.now n.before n.sound n.edge n.from n.to)

pub returns : goal.returns
returns c =
    let n = c.requires in
    rw (c.link-2.ensures.spots, c.link-2.ensures.slots, c.link.ensures.spots, c.link.ensures.slots, n.slots_are, n.last)
    (record {
      sound = sound_added c.args.spots.now n.before n.sound n.edge n.from n.to;
      nodes = nodes_added c.args.spots.now n.before n.sound n.edge n.from n.to;
      edges = edges_added c.args.spots.now n.before n.sound n.edge n.from n.to;
    })
