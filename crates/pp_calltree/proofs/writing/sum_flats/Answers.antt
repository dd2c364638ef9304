use Rattle.std.proofs.Common.{w64, to_z, of_z, arith}
use Rattle.pp_calltree.proofs.RunSums.{read_back}
use Rattle.pp_calltree.proofs.Summing.{has_place, next_is, sum_more, sum_all}
use Rattle.pp_calltree.proofs.writing.sum_flats.Goals as goal

pub plus-sum-requires : goal.plus-sum-requires
plus-sum-requires c =
    let place = has_place c.args.nodes.now c.loop-n.n c.node.result (to_z w64 c.loop-n.sum-bits) c.node.ensures c.loop-n.invariant.small c.requires in
    rw (read_back c.node.result.flat (omega (arith, place))) place

pub loop-n-preserved : goal.loop-n-preserved
loop-n-preserved c =
    sum_more c.args.nodes.now c.loop-n.n c.node.result (to_z w64 c.loop-n.sum-bits) (to_z w64 (of_z w64 c.plus-sum.result)) c.node.ensures
    (next_is c.args.nodes.now c.loop-n.n c.node.result (to_z w64 c.loop-n.sum-bits) c.plus-sum.result c.node.ensures c.loop-n.invariant.small c.requires c.plus-sum.ensures)
    c.loop-n.invariant

pub returns : goal.returns
returns c p =
    sum_all p c.args.nodes.now c.loop-n.n (to_z w64 c.loop-n.sum-bits) (omega (arith, c.loop-n-test.false, c.len-n-end.ensures)) c.loop-n.invariant
