use Rattle.std.proofs.Common.{arith, length, length-set, get_or, true, ◌∙◌}
use Rattle.pp_steal.proofs.Marking.{in_range, marks_more}
use Rattle.pp_steal.proofs.given.mark_list.Goals as goal

pub index_mut-requires : goal.index_mut-requires
index_mut-requires c = let r = in_range (length c.args.marks.now.items) c.args.list.now c.loop-piece.piece-index c.requires (omega arith) in let i = c.loop-piece.invariant.0 in omega arith

pub loop-piece-preserved : goal.loop-piece-preserved
loop-piece-preserved c = let r = in_range (length c.args.marks.now.items) c.args.list.now c.loop-piece.piece-index c.requires (omega arith) in
    (length-set c.loop-piece.marks.items (get_or c.args.list.now c.loop-piece.piece-index 0) true ∙ c.loop-piece.invariant.0, marks_more c.args.marks.now.items c.loop-piece.marks.items c.args.list.now c.loop-piece.piece-index c.loop-piece.invariant.0 (omega arith) r c.loop-piece.invariant.1)
