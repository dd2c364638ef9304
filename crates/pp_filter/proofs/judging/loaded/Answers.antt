use Rattle.std.proofs.Common.{◌≡◌, length, subst, sym, ap, refl, ◌∙◌}
use Rattle.std.specs.Prelude.{Ok}
use Rattle.std.specs.Option.{ForSome}
use Rattle.pp_model.proofs.LoadedLemmas.{same_loaded}
use Rattle.pp_model.specs.Judged.{judged_fits}
use Rattle.pp_pattern.specs.Load.{load_verdicts, drop_finder, keep_finder}
use Rattle.pp_filter.specs.Asked.{loaded_or_refused}
use Rattle.pp_filter.proofs.judging.loaded.Goals as goal

-- there are as many verdicts as texts
pub invariant_of-result : goal.invariant_of-result
invariant_of-result g c =
    let p = c.args.profile in
    let own : (c.in-Ok.drop, c.in-Ok.keep) ≡ load_verdicts g.D.Desk.finds p = rw c.in-Ok.is at c.requires in
    record {
      drop_fits = subst (λ verdicts. ForSome verdicts (λ found. length found ≡ length p.text)) (sym (ap (λ v. v.0) own)) (judged_fits p (drop_finder g.D.Desk.finds p));
      keep_fits = subst (λ verdicts. ForSome verdicts (λ found. length found ≡ length p.text)) (sym (ap (λ v. v.1) own)) (judged_fits p (keep_finder g.D.Desk.finds p));
    }

-- the verdicts are what the patterns find
pub returns-in-Ok-clause-is : goal.returns-in-Ok-clause-is
returns-in-Ok-clause-is g c =
    let own : (c.in-Ok.drop, c.in-Ok.keep) ≡ load_verdicts g.D.Desk.finds c.args.profile = rw c.in-Ok.is at c.requires in
    ap (λ l. Ok (Ok l)) (same_loaded _ _ refl (ap (λ v. v.0) own) (ap (λ v. v.1) own))
    ∙ sym (ap (λ answer. Ok (loaded_or_refused g.D.Desk.finds c.args.profile answer)) c.in-Ok.is)
