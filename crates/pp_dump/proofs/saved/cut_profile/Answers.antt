use Rattle.std.proofs.Common.{sym, subst}
use Rattle.std.specs.List.{AllByRecursion}
use Rattle.pp_model.specs.Words.{NoRuleFails}
use Rattle.pp_restack.specs.Places.{IsCutSample}
use Rattle.pp_restack.proofs.CutValid.{cut_valid}
use Rattle.pp_dump.proofs.saved.cut_profile.Goals as goal

-- what is merged alone keeps the table rules
pub claim-requires : goal.claim-requires
claim-requires g c =
    let is = c.in_ok-q.ensures in
    let p = c.args.l.now.profile in
    subst NoRuleFails (sym is.is)
    (cut_valid p is.samples is.locations is.valid is.adds.places (subst (AllByRecursion (IsCutSample p is.locations)) (sym is.adds.is) is.adds.each))
