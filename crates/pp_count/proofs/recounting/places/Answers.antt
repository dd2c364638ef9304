use Rattle.std.proofs.Common.{arith}
use Rattle.pp_count.proofs.Placed.{placed_none, placed_more, placed_all}
use Rattle.pp_count.proofs.recounting.places.Goals as goal

pub loop-index-init : goal.loop-index-init
loop-index-init c = placed_none c.args.keys.now c.args.numbers c.in_ok-place.place c.in_ok-place.ensures

pub item_mut-requires : goal.item_mut-requires
item_mut-requires c = omega (arith, c.requires.below c.loop-index.index 0 c.loop-index-test.true, c.loop-index.invariant.count)

pub loop-index-preserved : goal.loop-index-preserved
loop-index-preserved c =
    placed_more c.args.keys.now c.args.numbers c.loop-index.index 0 c.loop-index.place c.loop-index-test.true c.requires.once c.requires.below c.loop-index.invariant

pub returns : goal.returns
returns c = placed_all c.args.keys.now c.args.numbers c.loop-index.index c.loop-index.place (omega (arith, c.loop-index-test.false, c.loop-index.auto.index-end)) c.loop-index.invariant
