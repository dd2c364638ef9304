use Rattle.std.proofs.Common.{◌∙◌, refl}
use Rattle.std.proofs.lemmas.List.{length-set}
use Rattle.pp_share.proofs.ChangeLemmas.{change_next}
use Rattle.pp_share.proofs.change.change_each.Goals as goal

pub loop-place-preserved : goal.loop-place-preserved
loop-place-preserved g c =
    let kept = c.loop-place.invariant in
    record {
      so_far =
          change_next (g.C.Change.changed c.args.change.now) c.args.items.now c.loop-place.items _
          c.loop-place.place c.item_mut.result.now c.change.new.item kept.so_far c.item_mut.ensures.value
          c.change.ensures refl;
      as_long = length-set c.loop-place.items c.loop-place.place c.change.new.item ∙ kept.as_long;
    }
