use Rattle.std.proofs.Common.{[], sym, subst}
use Rattle.pp_model.specs.Words.{NoRuleFails, IsCompact}
use Rattle.std.proofs.lemmas.Result.{IfOk-weaker}
use Rattle.pp_dump.specs.Places.{AreCopies}
use Rattle.pp_dump.proofs.AddingSamples.{copies_none}
use Rattle.pp_dump.proofs.whole.CopyingPiecewiseU32.begin.Goals as goal

-- no sample is copied yet
pub returns : goal.returns
returns c =
    let l = c.args.self.now.l.now in
    let v = c.args.self.now.v.now in
    let none = copies_none l v (subst NoRuleFails c.get-valid.ensures.same c.get-valid.ensures.valid) (subst IsCompact c.get-valid.ensures.same c.get-valid.ensures.compact) in
    IfOk-weaker c.no_items.result _ _ (λ samples empty. subst (AreCopies l v []) (sym empty) none) c.no_items.ensures
