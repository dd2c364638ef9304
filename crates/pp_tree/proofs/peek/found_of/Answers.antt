use Rattle.std.proofs.Common.{sym, ◌∙◌, slice_index_or, false}
use Rattle.pp_tree.proofs.Peeking.{kept_more, left_out, all_looked}
use Rattle.pp_tree.proofs.peek.found_of.Goals.{then-is_found+in_ok-push, else-is_found}
use Rattle.pp_tree.proofs.peek.found_of.Goals as goal

pub loop-number-preserved : goal.loop-number-preserved
loop-number-preserved c = elim c.if-is_found.branch [
  | then-is_found+in_ok-push w ↦
      rw (w.shown-is, w.in_ok-push.ensures.ok)
      (kept_more (λ n. slice_index_or c.args.found.now n false) c.args.order.now c.loop-number.number-index 0 c.loop-number.shown c.loop-number-test.true (sym c.is_found.ensures ∙ w.if-is_found.true) c.loop-number.invariant)
  | else-is_found w ↦
      rw w.shown-is
      (left_out (λ n. slice_index_or c.args.found.now n false) c.args.order.now c.loop-number.number-index 0 c.loop-number.shown c.loop-number-test.true (sym c.is_found.ensures ∙ w.if-is_found.false) c.loop-number.invariant)
]

pub returns : goal.returns
returns c = all_looked (λ n. slice_index_or c.args.found.now n false) c.args.order.now c.loop-number.number-index c.loop-number.shown c.loop-number-test.false c.loop-number.invariant
