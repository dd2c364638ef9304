use Rattle.std.proofs.Common.{ℕ}
use Rattle.pp_calltree.specs.CallTree.{all_lengths}
use Rattle.pp_calltree.specs.Paths.{below}
use Rattle.pp_calltree.proofs.ListedPaths.{known_keys, listing_start, listing_more, listing_end, next_listable}
use Rattle.pp_calltree.proofs.Waiting.{lighter, none_waits}
use Rattle.pp_calltree.proofs.listing.list_paths.Goals as goal

pub loop-branch-init : goal.loop-branch-init
loop-branch-init c =
    listing_start c.args.p.now c.args.names.now c.args.paths.now c.new-texts.result c.new-texts.ensures c.push_branches.new.waiting.items c.in_ok-sums.sums.items c.requires.room
    c.in_ok-sums.ensures.items (rw c.new-waiting.ensures.items at c.in_ok-push_branches.ensures)

pub pass_on-requires-clause-rises : goal.pass_on-requires-clause-rises
pass_on-requires-clause-rises c =
    (next_listable c.args.p.now c.args.names.now c.args.paths.now c.loop-branch.waiting.items c.pop.new.self.items c.in-Some.branch c.loop-branch.sums.items c.in-Some.ensures.items
    c.loop-branch.invariant).layable.rises

pub pass_on-requires-clause-fits : goal.pass_on-requires-clause-fits
pass_on-requires-clause-fits c =
    (next_listable c.args.p.now c.args.names.now c.args.paths.now c.loop-branch.waiting.items c.pop.new.self.items c.in-Some.branch c.loop-branch.sums.items c.in-Some.ensures.items
    c.loop-branch.invariant).layable.room.fits

pub pass_on-requires-clause-long : goal.pass_on-requires-clause-long
pass_on-requires-clause-long c =
    (next_listable c.args.p.now c.args.names.now c.args.paths.now c.loop-branch.waiting.items c.pop.new.self.items c.in-Some.branch c.loop-branch.sums.items c.in-Some.ensures.items
    c.loop-branch.invariant).trailed.long

pub loop-branch-smaller : goal.loop-branch-smaller
loop-branch-smaller c =
    let most : ℕ = all_lengths (below 0 c.args.paths.now) in
    let pass = c.in_ok-pass_on.ensures c.args.p.now c.args.names.now most c.new-texts.ensures
    (next_listable c.args.p.now c.args.names.now c.args.paths.now c.loop-branch.waiting.items c.pop.new.self.items c.in-Some.branch c.loop-branch.sums.items c.in-Some.ensures.items
    c.loop-branch.invariant) in
    lighter c.loop-branch.waiting.items c.pop.new.self.items c.in-Some.branch c.in-Some.ensures.items c.pass_on.new.waiting.items pass.branches pass.added pass.lighter

pub loop-branch-preserved : goal.loop-branch-preserved
loop-branch-preserved c =
    let most : ℕ = all_lengths (below 0 c.args.paths.now) in
    let pass = c.in_ok-pass_on.ensures c.args.p.now c.args.names.now most c.new-texts.ensures
    (next_listable c.args.p.now c.args.names.now c.args.paths.now c.loop-branch.waiting.items c.pop.new.self.items c.in-Some.branch c.loop-branch.sums.items c.in-Some.ensures.items
    c.loop-branch.invariant) in
    listing_more c.args.p.now c.args.names.now c.args.paths.now c.loop-branch.waiting.items c.pop.new.self.items c.pass_on.new.waiting.items c.in-Some.branch c.loop-branch.sums.items
    c.pass_on.new.sums.items c.in-Some.ensures.items pass c.loop-branch.invariant

-- no branch waits any more
pub returns-clause-are : goal.returns-clause-are
returns-clause-are c =
    listing_end c.args.p.now c.args.names.now c.args.paths.now c.loop-branch.sums.items c.loop-branch.waiting.items
    (none_waits c.loop-branch.waiting.items c.pop.new.self.items _ c.in_default.ensures.items c.in_default.ensures.rest c.in_default.ensures.cases.0) c.loop-branch.invariant

pub returns-clause-keys : goal.returns-clause-keys
returns-clause-keys c = known_keys c.args.p.now c.args.names.now c.loop-branch.sums.items c.requires.keys c.loop-branch.invariant.below
