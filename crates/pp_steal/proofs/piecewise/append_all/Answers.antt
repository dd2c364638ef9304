use Rattle.std.proofs.Common.{refl, sym, subst, ◌∙◌}
use Rattle.pp_steal.specs.Pieces.{IsCutInto}
use Rattle.pp_steal.proofs.PieceLemmas.{AreAppended, part_appended}
use Rattle.pp_steal.proofs.piecewise.append_all.Goals as goal

-- no part is appended yet
pub loop-part-init : goal.loop-part-init
loop-part-init g c = λ xs ys is are. record {
  front = xs;
  rest = ys;
  cut = refl;
  is_right = is;
  are = subst (IsCutInto (g.W.Piecewise.right c.args.work.now) ys) (sym (c.into_iter-part-iterator.ensures.into_iter_gives.0 ∙ c.into_vec-part-items.ensures)) are;
}

pub loop-part-preserved : goal.loop-part-preserved
loop-part-preserved g c = λ xs ys is are.
    part_appended (g.W.Piecewise.right c.args.work.now) _ c.loop-part.all c.in_ok-all.all c.in-Some.part c.next.new.self.rest.items
    (subst (AreAppended (g.W.Piecewise.right c.args.work.now) _ c.loop-part.all) c.in-Some.ensures.steps.0 (c.loop-part.invariant xs ys is are))
    c.in_ok-all.ensures
