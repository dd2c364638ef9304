use Rattle.std.proofs.Common.{refl, arith}
use Rattle.pp_calltree.specs.CallTree.{all_lengths}
use Rattle.pp_calltree.specs.Laid.{IsLayable}
use Rattle.pp_calltree.specs.Paths.{below}
use Rattle.pp_calltree.proofs.LaidOut.{laying_start, laying_more, laying_end}
use Rattle.pp_calltree.proofs.Waiting.{lighter, next_holds, none_waits}
use Rattle.pp_calltree.proofs.laying.lay_out.Goals as goal

pub loop-branch-init : goal.loop-branch-init
loop-branch-init c =
    laying_start c.args.p.now c.args.names.now c.new-texts.result c.new-texts.ensures c.args.paths.now c.in_ok-nodes.nodes.items c.push_branches.new.waiting.items c.requires.room
    c.in_ok-nodes.ensures.items (rw c.new-waiting.ensures.items at c.in_ok-push_branches.ensures)

pub put_node-requires-clause-rises : goal.put_node-requires-clause-rises
put_node-requires-clause-rises c =
    (next_holds c.loop-branch.waiting.items c.pop.new.self.items c.in-Some.branch c.in-Some.ensures.items (IsLayable c.args.names.now (all_lengths (below 0 c.args.paths.now)))
    c.loop-branch.invariant.rows.each).rises

pub put_node-requires-clause-fits : goal.put_node-requires-clause-fits
put_node-requires-clause-fits c =
    (next_holds c.loop-branch.waiting.items c.pop.new.self.items c.in-Some.branch c.in-Some.ensures.items (IsLayable c.args.names.now (all_lengths (below 0 c.args.paths.now)))
    c.loop-branch.invariant.rows.each).room.fits

pub loop-branch-smaller : goal.loop-branch-smaller
loop-branch-smaller c =
    let adds = c.in_ok-put_node.ensures.adds in
    lighter c.loop-branch.waiting.items c.pop.new.self.items c.in-Some.branch c.in-Some.ensures.items c.put_node.new.waiting.items adds.branches adds.added
    (omega (arith, adds.are.lighter))

pub loop-branch-preserved : goal.loop-branch-preserved
loop-branch-preserved c =
    laying_more c.args.p.now c.args.names.now c.new-texts.result c.new-texts.ensures c.args.paths.now c.loop-branch.nodes.items c.put_node.new.nodes.items _
    c.loop-branch.waiting.items c.pop.new.self.items c.put_node.new.waiting.items c.in-Some.branch c.requires.keys c.in-Some.ensures.items
    c.in_ok-put_node.ensures.node refl c.in_ok-put_node.ensures.adds c.loop-branch.invariant

-- no branch waits any more
pub returns-clause-rows : goal.returns-clause-rows
returns-clause-rows c =
    rw c.from_vec.ensures (laying_end c.args.p.now c.args.names.now c.new-texts.result c.new-texts.ensures c.args.paths.now c.loop-branch.nodes.items c.loop-branch.waiting.items
    (none_waits c.loop-branch.waiting.items c.pop.new.self.items _ c.in_default.ensures.items c.in_default.ensures.rest c.in_default.ensures.cases.0) c.loop-branch.invariant)

pub returns-clause-keys : goal.returns-clause-keys
returns-clause-keys c = rw c.from_vec.ensures c.loop-branch.invariant.keys

pub returns-clause-fits : goal.returns-clause-fits
returns-clause-fits c = rw c.from_vec.ensures (omega (arith, c.loop-branch.invariant.sizes, c.requires.room.fits))
