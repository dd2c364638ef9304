use Rattle.std.proofs.Common.{arith, length}
use Rattle.pp_steal.proofs.Marking.{in_range}
use Rattle.pp_steal.proofs.Placing.{place_one}
use Rattle.pp_steal.proofs.outcomes.place.Goals as goal

pub index_mut-requires : goal.index_mut-requires
index_mut-requires g c = let i = c.loop-outcome.invariant in let z = c.in-Some.ensures.cases in let n = c.requires.outcomes.many in let few = i.done.1 in
    let r = in_range (length c.args.slots.now.items) c.args.list.now c.len-k.result c.requires.pieces (omega arith) in let s = i.count in omega arith

pub loop-outcome-preserved : goal.loop-outcome-preserved
loop-outcome-preserved g c = let z = c.in-Some.ensures.cases in place_one (g.J.Job.right c.args.job.now) c.args.list.now c.args.outcomes.items c.loop-outcome.outcomes.items c.pop.new.self.items c.args.slots.now.items c.loop-outcome.slots.items c.in-Some.outcome c.len-k.result c.requires.outcomes c.requires.pieces c.loop-outcome.invariant c.in-Some.ensures.items (omega arith) (omega arith)

pub loop-outcome-preserved-in-Some : goal.loop-outcome-preserved-in-Some
loop-outcome-preserved-in-Some g c = let z = c.in-Some.ensures.cases in place_one (g.J.Job.right c.args.job.now) c.args.list.now c.args.outcomes.items c.loop-outcome.outcomes.items c.pop.new.self.items c.args.slots.now.items c.loop-outcome.slots.items c.in-Some.outcome c.len-k.result c.requires.outcomes c.requires.pieces c.loop-outcome.invariant c.in-Some.ensures.items (omega arith) (omega arith)
