use Rattle.std.proofs.Common.{length, take, ap, arith}
use Rattle.pp_graph.proofs.Flags.{flags_none, flags_more, length-flags}
use Rattle.pp_library.proofs.edging.kept.Goals as goal

pub loop-number-init : goal.loop-number-init
loop-number-init c = flags_none c.args.names c.in_ok-keep.keep c.in_ok-keep.ensures

pub item_mut-requires : goal.item_mut-requires
item_mut-requires c =
    omega (
      arith,
      c.requires c.loop-number.number-index 0 c.loop-number-test.true,
      ap length c.loop-number.invariant,
      length-flags c.args.names (take c.loop-number.number-index c.args.order.now),
    )

pub loop-number-preserved : goal.loop-number-preserved
loop-number-preserved c =
    flags_more c.args.names c.loop-number.number-index 0 c.args.order.now c.loop-number.keep c.loop-number-test.true
    (c.requires c.loop-number.number-index 0 c.loop-number-test.true) c.loop-number.invariant
