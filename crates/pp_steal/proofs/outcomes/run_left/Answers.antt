use Rattle.std.proofs.Common.{arith, Some, ◌<◌, ℕ, length, length-set, get_or, ◌∙◌}
use Rattle.pp_steal.proofs.Marking.{in_range}
use Rattle.pp_steal.proofs.Placing.{right_set, placed_up}
use Rattle.pp_steal.proofs.outcomes.run_left.Goals as goal

pub work_on-requires-after_bounds : goal.work_on-requires-after_bounds
work_on-requires-after_bounds g c = λ _ _. let r = in_range (length c.args.slots.now.items) c.args.left.now c.loop-piece.piece-index c.requires.pieces (omega arith) in omega (arith, c.requires.job)

pub index_mut-requires : goal.index_mut-requires
index_mut-requires g c = let r = in_range (length c.args.slots.now.items) c.args.left.now c.loop-piece.piece-index c.requires.pieces (omega arith) in let i = c.loop-piece.invariant.count in omega arith

pub loop-piece-preserved : goal.loop-piece-preserved
loop-piece-preserved g c =
    let i = c.loop-piece.invariant in
    let r = in_range (length c.args.slots.now.items) c.args.left.now c.loop-piece.piece-index c.requires.pieces (omega arith) in
    let n = i.count in
    let lt : get_or c.args.left.now c.loop-piece.piece-index 0 < length c.loop-piece.slots.items = omega arith in
    let right = g.J.Job.right c.args.job.now in
    let p : ℕ = get_or c.args.left.now c.loop-piece.piece-index 0 in
    record {
      count = length-set c.loop-piece.slots.items p (Some c.in_ok-work_on.field-0) ∙ i.count;
      kept = λ x h. right_set right c.loop-piece.slots.items p x c.in_ok-work_on.field-0 lt c.in_ok-work_on.ensures (i.kept x h);
      placed = placed_up right c.loop-piece.slots.items c.args.left.now c.loop-piece.piece-index c.in_ok-work_on.field-0 lt c.in_ok-work_on.ensures i.placed;
    }
