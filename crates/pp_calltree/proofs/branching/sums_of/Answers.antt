use Rattle.std.proofs.Common.{pos, [], to_z, w64}
use Rattle.pp_calltree.specs.declared.path.Path.{Path}
use Rattle.pp_calltree.proofs.RunSums.{cum_fits, flat_fits, sums_more}
use Rattle.pp_calltree.proofs.branching.sums_of.Goals as goal

none : Path
none = record { value = pos 0; keys = record { ref_ptr = (0, 0); now = [] } }

pub plus-cum-requires : goal.plus-cum-requires
unfolding none
plus-cum-requires c =
    cum_fits c.args.depth c.args.run.now c.loop-path.path-index none c.loop-path-test.true c.requires (to_z w64 c.loop-path.flat-bits) (to_z w64 c.loop-path.cum-bits) c.loop-path.invariant

pub plus-flat-requires : goal.plus-flat-requires
unfolding none
plus-flat-requires c =
    flat_fits c.args.depth c.args.run.now c.loop-path.path-index none c.loop-path-test.true c.requires (to_z w64 c.loop-path.flat-bits) (to_z w64 c.loop-path.cum-bits) c.own_value.result c.own_value.ensures
    c.loop-path.invariant

pub loop-path-preserved : goal.loop-path-preserved
unfolding none
loop-path-preserved c =
    sums_more c.args.depth c.args.run.now c.loop-path.path-index none c.loop-path-test.true c.requires (to_z w64 c.loop-path.flat-bits) (to_z w64 c.loop-path.cum-bits) c.own_value.result
    c.plus-flat.result c.plus-cum.result c.own_value.ensures c.plus-cum.ensures c.plus-flat.ensures c.loop-path.invariant
