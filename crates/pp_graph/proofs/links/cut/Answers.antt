use Rattle.pp_graph.specs.declared.slot.Side.TheVariants.{Out}
use Rattle.pp_graph.proofs.Seeing.{has_place}
use Rattle.pp_graph.proofs.Cutting.{in_place, sound_cut, seen_cut}
use Rattle.pp_graph.proofs.links.cut.Goals as goal

pub unlink-requires : goal.unlink-requires
unlink-requires c = has_place c.args.spots.now c.args.slots.now c.requires.sound c.args.e c.requires.live Out

pub unlink-requires-2 : goal.unlink-requires-2
unlink-requires-2 c =
    rw (c.unlink.ensures.spots, c.unlink.ensures.slots)
    (in_place c.args.spots.now c.args.slots.now c.requires.sound c.args.e c.requires.live)

pub returns : goal.returns
returns c =
    rw (c.unlink-2.ensures.spots, c.unlink-2.ensures.slots, c.unlink.ensures.spots, c.unlink.ensures.slots)
    (record {
      sound = sound_cut c.args.spots.now c.args.slots.now c.requires.sound c.args.e c.requires.live;
      seen = seen_cut c.args.spots.now c.args.slots.now c.requires.sound c.args.e c.requires.live;
    })
