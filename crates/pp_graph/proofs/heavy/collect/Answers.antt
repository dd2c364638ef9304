use Rattle.std.proofs.Common.{arith, sym, ◌∙◌}
use Rattle.pp_graph.proofs.Collecting.{collected_heavy, collected_light, light_bound}
use Rattle.pp_graph.proofs.heavy.collect.Goals.{then-is_heavy_name+in_ok-push, else-is_heavy_name}
use Rattle.pp_graph.proofs.heavy.collect.Goals as goal

pub overflow_add-light : goal.overflow_add-light
overflow_add-light c = record {
  fits = omega (
    arith,
    c.loop-number.invariant.too_light,
    light_bound c.args.p.now c.args.sort c.args.sums.now c.args.total c.args.least.billionths c.loop-number.number,
    c.loop-number-test.true,
  );
}

pub loop-number-preserved : goal.loop-number-preserved
loop-number-preserved c = elim c.if-is_heavy_name.branch [
  | then-is_heavy_name+in_ok-push w ↦ rw (w.rows-is, w.light-is, w.in_ok-push.ensures.items)
      (collected_heavy c.args.p.now c.args.sort c.args.sums.now c.args.total c.args.least.billionths c.loop-number.number c.loop-number.rows.items
      w.row_of.result c.loop-number.light (sym c.is_heavy_name.ensures ∙ w.if-is_heavy_name.true) w.row_of.ensures.row w.row_of.ensures.number c.loop-number.invariant)
  | else-is_heavy_name w ↦ rw (w.rows-is, w.light-is)
      (collected_light c.args.p.now c.args.sort c.args.sums.now c.args.total c.args.least.billionths c.loop-number.number c.loop-number.rows.items
      c.loop-number.light (sym c.is_heavy_name.ensures ∙ w.if-is_heavy_name.false) c.loop-number.invariant)
]
