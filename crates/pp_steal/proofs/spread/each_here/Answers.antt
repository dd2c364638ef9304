use Rattle.std.proofs.Common.{ℕ, ◌+◌, ◌<◌, get_or, set, length, arith, sym, subst, ◌∙◌}
use Rattle.std.proofs.lemmas.List.{get_or-set_same, get_or-set_other, get_or_default}
use borrow.Author.Count.{below_more}
use Rattle.std.specs.Fork.{ChangesAt}
use Rattle.pp_steal.proofs.spread.each_here.Goals as goal

-- the call left the item at its place, and no other was touched
pub loop-index-preserved : goal.loop-index-preserved
loop-index-preserved g c =
    let i = c.loop-index.index in let xs = c.args.part.now in let ys = c.loop-index.part in let y = c.one_here.new.item in
    let R : ℕ → g.row.T.Denot → g.row.T.Denot → Type 0 = λ j. ChangesAt g.F.Fn c.args.f.now (c.args.from + j) in
    let within : i < length ys = omega arith in
    record {
      behind = λ j other later. get_or-set_other ys i j y other (λ e. omega (arith, e, later))
          ∙ c.loop-index.invariant.behind j other (omega arith);
      called = λ j other below. below_more (λ k. R k (get_or xs k other) (get_or (set ys i y) k other)) i
          (λ k before. subst (R k (get_or xs k other))
          (sym (get_or-set_other ys i k y other (λ e. omega (arith, e, before))))
          (c.loop-index.invariant.called k other before))
          (subst (R i (get_or xs i other)) (sym (get_or-set_same ys i y other within))
          (subst (λ x. R i x y) (get_or_default ys i _ other within ∙ c.loop-index.invariant.behind i other (omega arith)) c.one_here.ensures))
          j below;
    }
