use Rattle.std.proofs.Common.{length, sym, ap, subst, arith}
use Rattle.pp_model.specs.Words.{AreNumbered}
use Rattle.pp_share.proofs.KeptIds.{id_stays, text_stays}
use Rattle.pp_share.proofs.ids.ids_by.Goals as goal

-- no id changes
pub returns-then-are_in_place : goal.returns-then-are_in_place
returns-then-are_in_place c =
    let numbered = subst AreNumbered c.as_slice-2.ensures c.if-are_in_place.ensures in
    let long = ap length c.as_slice.ensures in
    record {
      ids = λ id some within. sym (id_stays c.args.ids numbered id (some, within));
      texts = λ i is. text_stays c.args.ids (omega (arith, long)) numbered i is;
    }
