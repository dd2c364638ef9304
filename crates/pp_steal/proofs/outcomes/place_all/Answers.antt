use Rattle.std.proofs.Common.{arith, ap, sym, take, ◌≡◌, ◌<◌, ◌+◌, ℕ, length, ◌∙◌}
use Rattle.pp_steal.proofs.Marking.{list_is, list_once}
use Rattle.pp_steal.proofs.Ends.{last_off}
use Rattle.pp_steal.proofs.Placing.{all_placed}
use Rattle.pp_steal.proofs.outcomes.place_all.Goals as goal

pub place-requires-clause-pieces : goal.place-requires-clause-pieces
place-requires-clause-pieces g c = let i = c.loop-of_lane.invariant in let z = c.in-Some.ensures.cases in let n = c.requires.outcomes.many in let few = i.left.1 in
    let lt : c.len-k.result < length c.args.taken.now = omega arith in
    λ _ _. list_once (length c.args.slots.now.items) (length c.loop-of_lane.slots.items) c.args.taken.now c.len-k.result c.as_slice.result.now c.requires.pieces i.count lt (c.as_slice.ensures ∙ list_is c.args.taken.now c.len-k.result c.index-taken-k.result lt c.index-taken-k.is)

pub loop-of_lane-preserved : goal.loop-of_lane-preserved
loop-of_lane-preserved g c = let i = c.loop-of_lane.invariant in let z = c.in-Some.ensures.cases in let n = c.requires.outcomes.many in let few = i.left.1 in
    let lt : c.len-k.result < length c.args.taken.now = omega arith in
    let more : length c.loop-of_lane.outcomes.items ≡ c.len-k.result + 1 = omega arith in
    let here : length c.pop.new.self.items ≡ c.len-k.result = omega arith in
    let off = last_off c.loop-of_lane.outcomes.items c.args.outcomes.items c.pop.new.self.items c.in-Some.of_lane (length c.loop-of_lane.outcomes.items) c.len-k.result c.in-Some.ensures.items i.left.0 more here in
    let all = all_placed (g.J.Job.right c.args.job.now) c.args.taken.now c.loop-of_lane.slots.items c.place.new.slots.items c.as_slice.result.now c.len-k.result (length c.loop-of_lane.outcomes.items) more
    (c.as_slice.ensures ∙ list_is c.args.taken.now c.len-k.result c.index-taken-k.result lt c.index-taken-k.is) c.place.ensures.kept c.place.ensures.placed i.placed in
    record {
      left = (off.1 ∙ ap (λ (k : ℕ). take k c.args.outcomes.items) (sym here), omega arith);
      count = c.place.ensures.count ∙ i.count;
      placed = λ j k le. all j k (omega arith);
    }
